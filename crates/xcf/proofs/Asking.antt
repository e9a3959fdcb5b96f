-- A call of plain edits needs no filter, and its reply is the machine's.
use Rattle.std.proofs.Common.{◌≡◌, ℕ, suc, true, List, [], ◌∷◌, refl, sym, subst, true≢false}
use Rattle.std.specs.Prelude.{Option, None}
use Rattle.spec_edit.specs.Edit as edits
use Rattle.spec_edit.specs.Edit.{Edit}
use Rattle.spec_history.specs.History.{asked}
use Rattle.spec_history.specs.Limited.{edits_of}
use Rattle.spec_history.specs.Machine as machine
use Rattle.spec_history.specs.Machine.{Call, Reply}
use Rattle.spec_tables.specs.Agrees.{AreThere}
use Rattle.spec_tables.specs.Tables.{tables_for, expected_tables}
use Rattle.spec_tables.proofs.Asked.{no_filters-tables}
use Rattle.xl_core.specs.Editing.{Editing, IsSubmitted}
use Rattle.xl_core.specs.History.{Answers}
use Rattle.xl_core.proofs.Submitted.{submitted_answers}
use Rattle.xl_calls.specs.Applicable.{IsNoPeek}
use Rattle.xcf.specs.Asked.{IsPlainCall}
use Rattle.xcf.specs.Plain.{is_plain, unplain_from}
use Rattle.xcf.proofs.Plain.{first_plain, no_filters}

-- a plain edit asks no chest
there_plain : (e : Edit) (rest : List Edit) → is_plain e ≡ true → AreThere [] rest → AreThere [] (e ∷ rest)
there_plain (edits.filter id rect slot) rest plain there = absurd (true≢false (sym plain))
there_plain (edits.fill id rect pixel) rest plain there = there
there_plain (edits.write id rect bytes) rest plain there = there
there_plain (edits.copy_rect id rect source u v) rest plain there = there
there_plain (edits.fill_mask id rect value) rest plain there = there
there_plain (edits.fill_channel index rect value) rest plain there = there
there_plain (edits.set_opacity id value) rest plain there = there
there_plain (edits.set_mode id mode) rest plain there = there
there_plain (edits.set_visible id on) rest plain there = there
there_plain (edits.set_lock_alpha id on) rest plain there = there
there_plain (edits.set_lock_content id on) rest plain there = there
there_plain (edits.set_offset id x y) rest plain there = there
there_plain (edits.rename id name) rest plain there = there
there_plain (edits.set_apply_mask id on) rest plain there = there
there_plain (edits.add_mask id) rest plain there = there
there_plain (edits.drop_mask id) rest plain there = there
there_plain (edits.new_layer parent place x y w h kind name) rest plain there = there
there_plain (edits.new_group parent place name) rest plain there = there
there_plain (edits.delete id) rest plain there = there
there_plain (edits.restack id parent place) rest plain there = there
there_plain (edits.select rect value) rest plain there = there
there_plain edits.select_none rest plain there = there
there_plain (edits.add_channel name) rest plain there = there
there_plain (edits.drop_channel index) rest plain there = there
there_plain (edits.set_colours bytes) rest plain there = there

pub are_there : (place : ℕ) (es : List Edit) → unplain_from place es ≡ None → AreThere [] es
are_there place [] none = tt
are_there place (e ∷ es) none =
    let both = first_plain place e es none in
    there_plain e es both.0 (are_there (suc place) es both.1)

none_expected : (es : List Edit) (guard : Option ℕ) (reply : Reply) → tables_for [] es ≡ []
    → expected_tables [] (asked (machine.edit guard es) []) reply ≡ []
none_expected es guard (machine.changed version group next) none = none
none_expected es guard (machine.refused index cause) none = refl
none_expected es guard (machine.moved now) none = refl
none_expected es guard machine.nothing_to_undo none = refl
none_expected es guard machine.nothing_to_redo none = refl
none_expected es guard (machine.not_top top) none = refl
none_expected es guard (machine.tile_of version) none = refl
none_expected es guard (machine.stale have seen) none = refl
none_expected es guard (machine.no_stack node) none = refl
none_expected es guard machine.outside_tile none = refl
none_expected es guard (machine.top_is group version) none = refl
none_expected es guard (machine.saved version) none = refl
none_expected es guard (machine.save_fault version) none = refl
none_expected es guard (machine.save_memory version) none = refl
none_expected es guard machine.history_full none = refl

pub expects_none : (call : Call) (reply : Reply) → IsPlainCall call → expected_tables [] (asked call []) reply ≡ []
expects_none (machine.edit guard es) reply plain = none_expected es guard reply (no_filters-tables [] es (no_filters 0 es plain.1))
expects_none (machine.undo named) reply plain = refl
expects_none machine.redo reply plain = refl
expects_none (machine.tile stack at) reply plain = refl
expects_none (machine.peek stack at) reply plain = absurd plain
expects_none machine.top reply plain = refl

plain_is_no_peek : (call : Call) → IsPlainCall call → IsNoPeek call
plain_is_no_peek (machine.edit guard es) plain = plain.0
plain_is_no_peek (machine.undo named) plain = tt
plain_is_no_peek machine.redo plain = tt
plain_is_no_peek (machine.tile stack at) plain = tt
plain_is_no_peek (machine.peek stack at) plain = absurd plain
plain_is_no_peek machine.top plain = tt

pub call_is_there : (call : Call) → IsPlainCall call → AreThere [] (edits_of call)
call_is_there (machine.edit guard es) plain = are_there 0 es plain.1
call_is_there (machine.undo named) plain = tt
call_is_there machine.redo plain = tt
call_is_there (machine.tile stack at) plain = tt
call_is_there (machine.peek stack at) plain = tt
call_is_there machine.top plain = tt

-- the reply is the machine's, with no table
pub answered : {K : Type 0} (old new : Editing K) (session : ℕ) (call : Call) (seen : ℕ) (reply : Reply) → IsPlainCall call
    → IsSubmitted old session call seen (expected_tables [] (asked call []) reply) reply new
    → Answers old.history session call [] reply new.history
answered old new session call seen reply plain is =
    submitted_answers old new session call seen [] reply (plain_is_no_peek call plain)
    (subst (λ tables. IsSubmitted old session call seen tables reply new) (expects_none call reply plain) is)
