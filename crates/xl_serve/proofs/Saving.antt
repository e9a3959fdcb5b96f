-- A save that is made in its place.
use Rattle.std.proofs.Common.{◌≡◌, ℕ, List, [], ◌∷◌, refl, ap, sym, ◌∙◌, subst}
use Rattle.std.specs.Prelude.{IsSome}
use Rattle.spec_document.specs.Document.{Document}
use Rattle.spec_history.specs.Machine.{Reply, State}
use Rattle.spec_history.specs.History.{Entry, ends, replay, next_index}
use Rattle.spec_history.specs.Kept.{IsLegal}
use Rattle.spec_history.proofs.Growing.{replay-append, replay-snoc}
use Rattle.spec_history.proofs.Versions.{latest_of-legal}
use Rattle.spec_saves.specs.Names.{version_out}
use Rattle.spec_world.specs.declared.SaveEnd.{SaveEnd}
use Rattle.spec_world.specs.Events.{end_reply}
use Rattle.xl_history.specs.Editing.{Editing, Begins, Ends, start_of, out_of, with_entry}
use Rattle.xl_history.specs.History.{History, version}
use Rattle.xl_history.specs.declared.saving.Begun.TheVariants.{Snapshot}
use Rattle.xl_serve.specs.Played.{GoesOn}
use Rattle.xl_play.proofs.Saved.{save_made}

-- the save that is out is of the last version
version_started : (h : History) (session : ℕ) → IsLegal h.base h.entries
    → version_out (out_of (with_entry h (start_of h session))) ≡ version h
version_started h session legal =
    ap (λ (s : State). version_out s.out) (replay-snoc h.base h.entries (start_of h session))
    ∙ sym (latest_of-legal h.base h.entries legal)

module _ {D : Type 0} (core mid new : Editing D) (session v : ℕ) (d : Document) (k k' : D) (how : SaveEnd) (reply : Reply)
    (begins : Begins core session (Snapshot v d k) mid) (ended : Ends mid session how k' reply new) where
  pub save_reply : IsLegal core.history.base core.history.entries → reply ≡ end_reply how v
  save_reply legal =
      ended.0
      ∙ ap (λ (c : Editing D). end_reply how (version_out (out_of c.history))) begins.4
      ∙ ap (end_reply how) (version_started core.history session legal ∙ sym begins.0)

  pub save_goes_on : IsLegal new.history.base new.history.entries → GoesOn core new
  save_goes_on legal =
      let h = core.history in
      let is = save_made core mid new session v d k k' how reply begins ended in
      let e : Entry = record { session = session; index = next_index h.entries session; kind = ends; reply = reply } in
      let more : List Entry = start_of h session ∷ e ∷ [] in
      record {
        ready = record {
          inside = subst (λ (c : Editing D). IsSome c.shelf) (sym ended.1) refl;
          legal = legal;
          ended = ap (λ (g : History). (replay g.base g.entries).out) is ∙ ap (λ (s : State). s.out) (replay-append h.base h.entries more);
        };
        base_is = ap (λ (g : History). g.base) is;
        opening_is = ap (λ (c : Editing D). c.opening) ended.1 ∙ ap (λ (c : Editing D). c.opening) begins.4;
        longer = (more, sym (ap (λ (g : History). g.entries) is));
      }
