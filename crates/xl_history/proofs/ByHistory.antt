-- What becomes of a picture, said by the history alone.
use Rattle.std.proofs.Common.{◌≡◌, ℕ, Bool, true, false, cond, nat_lt, List, refl, sym, ◌∙◌, ap, true≢false}
use Rattle.std.specs.Prelude.{Option, Some, None, is_some, option_and_then}
use Rattle.spec_document.specs.Grid.{is_on_grid}
use Rattle.spec_document.specs.Document.{Document}
use Rattle.spec_cache.specs.declared.Finished.TheVariants.{Installed, Late, Gone}
use Rattle.spec_cache.specs.Slots.{Slot, Slots, slot_at}
use Rattle.spec_cache.specs.Cache.{Cache, Place, slots_of, slot_of, finish_at, finish}
use Rattle.spec_cache.proofs.Found.{canvas-found, slot-there}
use Rattle.spec_history.specs.Machine.{State, latest, document_at, has_stack}
use Rattle.spec_history.specs.History.{Entry, replay}
use Rattle.spec_history.specs.Marks.{marked_at}
use Rattle.spec_world.specs.Standing.{IsStanding}
use Rattle.xl_history.specs.Jobs.{finished_by}
use Rattle.spec_standing.specs.Now.{world_of}

pub finish-by_history : (base : Document) (entries : List Entry) (kept_tiles : Cache) (place : Place) (version : ℕ)
    → IsStanding base (world_of base entries kept_tiles)
    → is_on_grid base.width base.height place.at ≡ true → finish kept_tiles place version ≡ finished_by base entries place version
finish-by_history base entries kept_tiles place version is on = of_stack (slots_of kept_tiles place.stack) refl
  where
    s : State
    s = replay base entries

    mark : ℕ
    mark = marked_at base s place.stack place.at

    has : Bool
    has = has_stack (document_at base s (latest s)) place.stack

    of_slot : (o : Option Slot) → slot_of kept_tiles place.stack place.at ≡ o → is_some o ≡ true
        → finish_at version o ≡ cond (nat_lt version mark) (Late mark) Installed
    of_slot None e some = absurd (true≢false (sym some))
    of_slot (Some slot) e some = ap (λ n. cond (nat_lt version n) (Late n) Installed) (is.each place.stack place.at slot e).mark

    of_stack : (o : Option Slots) → slots_of kept_tiles place.stack ≡ o
        → finish_at version (slot_of kept_tiles place.stack place.at)
        ≡ cond has (cond (nat_lt version mark) (Late mark) Installed) Gone
    of_stack None e =
        let none : slot_of kept_tiles place.stack place.at ≡ None = ap (option_and_then (λ slots. slot_at slots place.at)) e in
        let gone : has ≡ false = sym (is.stacks place.stack) ∙ ap is_some e in
        ap (finish_at version) none ∙ sym (ap (λ b. cond b (cond (nat_lt version mark) (Late mark) Installed) Gone) gone)
    of_stack (Some slots) e =
        let there : is_some (slot_of kept_tiles place.stack place.at) ≡ true =
        ap (λ o. is_some (option_and_then (λ k. slot_at k place.at) o)) e
        ∙ slot-there base.width base.height slots place.at
        (canvas-found base.width base.height kept_tiles.held place.stack slots is.slots.of_canvas e) on in
        let found : has ≡ true = sym (is.stacks place.stack) ∙ ap is_some e in
        of_slot (slot_of kept_tiles place.stack place.at) refl there
        ∙ sym (ap (λ b. cond b (cond (nat_lt version mark) (Late mark) Installed) Gone) found)
