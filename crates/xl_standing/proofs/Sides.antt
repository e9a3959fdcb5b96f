-- A group of edits leaves the sides of the canvas as they are.
use Rattle.std.proofs.Common.{◌≡◌, ℕ, suc, cond, List, [], ◌∷◌, refl, sym, ◌∙◌, ap}
use Rattle.std.specs.Prelude.{Ok}
use Rattle.spec_document.specs.Document.{Document}
use Rattle.spec_edit.specs.Edit as edits
use Rattle.spec_edit.specs.Edit.{Edit}
use Rattle.spec_edit.specs.Effect.{effect}
use Rattle.spec_edit.specs.Apply.{At, apply, is_filter, first_table, other_tables, apply_from, apply_group}
use Rattle.spec_edit.proofs.EditsLimited.{after_ok}
use Rattle.xl_standing.proofs.Groups.{makes}

-- documents of one canvas
pub record SameSides (old new : Document) : Type 0 where
  pub width : new.width ≡ old.width
  pub height : new.height ≡ old.height

sides_effect : (d : Document) (next : ℕ) (table : List ℕ) (e : Edit) → SameSides d (effect d next table e)
sides_effect d next table (edits.fill id rect pixel) = record { width = refl; height = refl }
sides_effect d next table (edits.write id rect bytes) = record { width = refl; height = refl }
sides_effect d next table (edits.filter id rect slot) = record { width = refl; height = refl }
sides_effect d next table (edits.copy_rect id rect from u v) = record { width = refl; height = refl }
sides_effect d next table (edits.fill_mask id rect value) = record { width = refl; height = refl }
sides_effect d next table (edits.fill_channel index rect value) = record { width = refl; height = refl }
sides_effect d next table (edits.set_opacity id value) = record { width = refl; height = refl }
sides_effect d next table (edits.set_mode id mode) = record { width = refl; height = refl }
sides_effect d next table (edits.set_visible id on) = record { width = refl; height = refl }
sides_effect d next table (edits.set_lock_alpha id on) = record { width = refl; height = refl }
sides_effect d next table (edits.set_lock_content id on) = record { width = refl; height = refl }
sides_effect d next table (edits.set_offset id x y) = record { width = refl; height = refl }
sides_effect d next table (edits.rename id name) = record { width = refl; height = refl }
sides_effect d next table (edits.set_apply_mask id on) = record { width = refl; height = refl }
sides_effect d next table (edits.add_mask id) = record { width = refl; height = refl }
sides_effect d next table (edits.drop_mask id) = record { width = refl; height = refl }
sides_effect d next table (edits.new_layer parent place x y w h kind name) = record { width = refl; height = refl }
sides_effect d next table (edits.new_group parent place name) = record { width = refl; height = refl }
sides_effect d next table (edits.delete id) = record { width = refl; height = refl }
sides_effect d next table (edits.restack id parent place) = record { width = refl; height = refl }
sides_effect d next table (edits.select rect value) = record { width = refl; height = refl }
sides_effect d next table edits.select_none = record { width = refl; height = refl }
sides_effect d next table (edits.add_channel name) = record { width = refl; height = refl }
sides_effect d next table (edits.drop_channel index) = record { width = refl; height = refl }
sides_effect d next table (edits.set_colours bytes) = record { width = refl; height = refl }

sides_from : (index : ℕ) (old new : At) (es : List Edit) (tables : List (List ℕ)) → apply_from index old es tables ≡ Ok new
    → SameSides old.document new.document
sides_from index old new [] tables e =
    let same : old ≡ new = cc in
    record { width = ap (λ a. a.document.width) (sym same); height = ap (λ a. a.document.height) (sym same) }
sides_from index old new (edit ∷ es) tables e =
    let left = cond (is_filter edit) (other_tables tables) tables in
    let mid = after_ok index (apply old edit (first_table tables)) (λ m. apply_from (suc index) m es left) new e in
    let made = makes old mid.0 edit (first_table tables) mid.1 in
    let one = sides_effect old.document old.next made.0 edit in
    let rest = sides_from (suc index) mid.0 new es left mid.2 in
    record {
      width = rest.width ∙ (ap (λ d. d.width) made.1 ∙ one.width);
      height = rest.height ∙ (ap (λ d. d.height) made.1 ∙ one.height);
    }

pub sides_same : (old new : At) (es : List Edit) (tables : List (List ℕ)) → apply_group old es tables ≡ Ok new
    → SameSides old.document new.document
sides_same old new es tables e = sides_from 0 old new es tables e
