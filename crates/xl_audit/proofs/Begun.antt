-- A walk that has not begun.
use Rattle.std.proofs.Common.{◌≡◌, ℕ, zero, suc, Bool, List, [], ◌∷◌, refl, sym, subst, replicate}
use Rattle.std.specs.Prelude.{slice_index}
use Rattle.spec_document.specs.Document.{Document}
use Rattle.spec_document.specs.Limits.{IsDocument}
use Rattle.spec_world.specs.Exact.{SlotsAreExact}
use Rattle.spec_world.proofs.Exact.{starts-exact}
use Rattle.xl_doc.specs.Numbered.{AreNumbered}
use Rattle.spec_history.specs.Machine.{initial}
use Rattle.spec_standing.specs.Now.{Now, first_now, world_of}
use Rattle.xl_desk.proofs.Opened.{stands_opened}
use Rattle.xl_judging.specs.Versions.{with_share, HasVersions}
use Rattle.xl_audit.specs.Walking.{HasCome}
use Rattle.xl_judging.specs.declared.versions.Versions.{Versions}
use Rattle.xl_judging.proofs.Sharing.{versions_begin}

none_seen : (n i : ℕ) → slice_index (replicate n 0) i ≡ 0
none_seen zero i = refl
none_seen (suc n) zero = refl
none_seen (suc n) (suc i) = none_seen n i

abbrev nothing : List ℕ
nothing = 0 ∷ 0 ∷ 0 ∷ 0 ∷ 0 ∷ 0 ∷ 0 ∷ 0 ∷ []

-- version 0 stands, nothing is kept, and nobody has seen more
pub begun : (base : Document) (now : Now) (versions : Versions) (wanted : List Bool) → AreNumbered base.nodes → IsDocument base
    → now ≡ first_now base → versions.wanted.items ≡ wanted → versions.shares.items ≡ with_share wanted base []
    → HasCome base [] (record { standing = now; versions = versions; made = nothing; seen = nothing; out = 0 })
begun base now versions wanted numbered within first same shares = record {
  stands = stands_opened base base [] now refl refl first numbered within;
  exact = subst (λ (n : Now). SlotsAreExact base (world_of base [] n.cache)) (sym first) (starts-exact base);
  seen = λ session lt. none_seen 8 session;
  out = tt;
  versions = subst (λ (w : List Bool). HasVersions base (initial base) w versions.shares.items) (sym same)
      (subst (HasVersions base (initial base) wanted) (sym shares) (versions_begin base wanted));
  eight_made = refl;
  eight_seen = refl;
}
