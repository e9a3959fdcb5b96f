-- The kept pictures of a core along a save.
use Rattle.std.proofs.Common.{◌≡◌, ℕ, false, [], ◌∷◌, ◌++◌, None, refl, ap, sym, ◌∙◌, subst}
use Rattle.spec_document.specs.declared.TileAt.{TileAt}
use Rattle.spec_document.specs.Document.{Document}
use Rattle.spec_document.specs.Limits.{IsDocument}
use Rattle.spec_cache.specs.Cache.{Cache}
use Rattle.spec_history.specs.Machine.{Reply, initial}
use Rattle.spec_history.specs.History.{Entry, is_changed}
use Rattle.spec_history.specs.Kept.{IsLegal, PeekMeetsKept, shown_version}
use Rattle.spec_history.proofs.Growing.{AsksCall-last}
use Rattle.spec_world.specs.declared.SaveEnd.{SaveEnd}
use Rattle.spec_world.specs.declared.SaveEnd.TheVariants.{Done, Fault, Memory}
use Rattle.spec_world.specs.Events.{end_reply}
use Rattle.spec_world.specs.Right.{IsRight}
use Rattle.spec_world.specs.Exact.{SlotsAreExact}
use Rattle.spec_world.proofs.Exact.{next-entry, stays-exact}
use Rattle.xl_history.specs.Editing.{Editing, world, Begins, Ends, start_of, end_of, with_entry}
use Rattle.xl_history.specs.History.{History}
use Rattle.xl_history.specs.declared.saving.Begun.TheVariants.{Snapshot}
use Rattle.xl_run.specs.Opening.{KeepsExactly}
use Rattle.xl_play.proofs.Grown.{run_behind}

end_unchanged : (how : SaveEnd) (v : ℕ) → is_changed (end_reply how v) ≡ false
end_unchanged Done v = refl
end_unchanged Fault v = refl
end_unchanged Memory v = refl

module _ {D : Type 0} where
  -- an entry that makes no version and shows no tile leaves the kept pictures as they are
  entry_kept : (old new : Editing D) (e : Entry) → KeepsExactly old → IsLegal old.history.base old.history.entries
      → new.history ≡ with_entry old.history e → new.cache ≡ old.cache
      → IsLegal new.history.base new.history.entries → IsRight new.history.base (world new)
      → PeekMeetsKept old.history.base old.history.entries e.kind e.reply → is_changed e.reply ≡ false
      → ((stack : ℕ) (at : TileAt) → shown_version e.kind e.reply stack at ≡ None) → KeepsExactly new
  entry_kept old new e kept legal grown same legal_now right peeks unchanged silent =
      let base = old.history.base in
      let es = old.history.entries in
      let whole : IsLegal base (es ++ e ∷ []) = subst (λ (h : History). IsLegal h.base h.entries) grown legal_now in
      let step = (run_behind base (initial base) [] es (e ∷ []) whole.run).0 in
      let asks = AsksCall-last es e whole.calls in
      let next = next-entry base (world old) e kept.within kept.right kept.exact asks step peeks in
      let P : History → Cache → Type 0 = λ h k. SlotsAreExact h.base (record (world old) { entries = h.entries; cache = k }) in
      record {
        within = subst (λ (h : History). IsDocument h.base) (sym grown) kept.within;
        right = right;
        exact = subst (λ (h : History). P h new.cache) (sym grown)
            (subst (P (with_entry old.history e)) (sym same) (stays-exact base (world old) e next unchanged silent));
      }

  -- so does a save
  pub save_kept : (core mid new : Editing D) (session v : ℕ) (d : Document) (k k' : D) (how : SaveEnd) (reply : Reply)
      → Begins core session (Snapshot v d k) mid → Ends mid session how k' reply new
      → KeepsExactly core → IsLegal core.history.base core.history.entries → IsLegal mid.history.base mid.history.entries
      → IsRight mid.history.base (world mid)
      → IsLegal new.history.base new.history.entries → IsRight new.history.base (world new) → KeepsExactly new
  save_kept core mid new session v d k k' how reply begins ended kept legal legal_mid right_mid legal_new right_new =
      let first =
      entry_kept core mid (start_of core.history session) kept legal (ap (λ (c : Editing D). c.history) begins.4)
      (ap (λ (c : Editing D). c.cache) begins.4) legal_mid right_mid tt refl (λ stack at. refl) in
      entry_kept mid new (end_of mid.history session reply) first legal_mid (ap (λ (c : Editing D). c.history) ended.1)
      (ap (λ (c : Editing D). c.cache) ended.1) legal_new right_new tt
      (ap is_changed ended.0 ∙ end_unchanged how _) (λ stack at. refl)
