use Rattle.std.proofs.Common.{◌≡◌, ◌∙◌, ap, sym, subst}
use Rattle.spec_document.specs.Limits.{AreBytes}
use Rattle.xl_tile.specs.Overlay.{under}
use Rattle.xl_tile.proofs.Overlays.{bytes_overlaid}
use Rattle.xl_tile.proofs.tile.TileRef.patched.Goals as goal

pub invariant_of-result : goal.invariant_of-result
invariant_of-result c =
    let all = rw (c.as_slice.ensures.value, c.deref.ensures) at c.know_bytes.ensures in
    let is : c.self.inside.stored ≡ c.args.self.now =
    sym (ap (λ patch. under patch c.self.inside.stored) c.in-None.is) ∙ c.self.view_is in
    let below : AreBytes c.self.inside.stored =
    subst (λ patch. AreBytes (under patch c.self.inside.stored)) c.in-None.is c.self.invariant.1 in
    rw (c.in_ok-new.ensures.ok, c.in_ok-try_clone.ensures, c.in_ok-share.ensures)
    (rw is c.requires, bytes_overlaid c.args.overlay _ c.self.inside.stored all below)
