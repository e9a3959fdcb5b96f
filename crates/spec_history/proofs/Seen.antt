-- What a session has seen after one more entry.
use Rattle.std.proofs.Common.{◌≡◌, ℕ, ◌+◌, ◌≤◌, Bool, true, false, cond, List, [], ◌∷◌, arith}
use Rattle.std.specs.Prelude.{not, Option, Result, Ok, Err}
use Rattle.spec_document.specs.declared.TileAt.{TileAt}
use Rattle.spec_document.specs.Grid.{is_on_grid}
use Rattle.spec_document.specs.Document.{Document}
use Rattle.spec_edit.specs.Edit.{Edit}
use Rattle.spec_edit.specs.Apply.{At, Refused, apply_group}
use Rattle.spec_history.specs.Machine.{Call, edit, undo, redo, tile, peek, top, Reply, changed, Done, State, latest}
use Rattle.spec_history.specs.Machine.{document_at, names, stays, again, moved, not_top, tile_of, no_stack}
use Rattle.spec_history.specs.Machine.{outside_tile, has_stack, tile_reply, made, undo_answer, redo_answer, answer}
use Rattle.spec_history.specs.Kept.{IsFreshReply}
use Rattle.spec_history.proofs.Growing.{cond_both}

one_more : (b : Bool) (now n : ℕ) → cond b (now + 1) now + n ≡ now + (cond b 1 0 + n)
one_more true now n = omega arith
one_more false now n = omega arith

no_less : (b : Bool) (now seen : ℕ) → seen ≤ now → seen ≤ cond b (now + 1) now
no_less true now seen le = omega arith
no_less false now seen le = le

fresh_cond : (seen : ℕ) (b : Bool) (x y : Reply) → IsFreshReply seen x → IsFreshReply seen y → IsFreshReply seen (cond b x y)
fresh_cond seen b x y p q = cond_both (IsFreshReply seen) b x y p q

fresh-made : (s : State) (seen : ℕ) (old : At) (edits : List Edit) (tables : List (List ℕ)) (r : Result At Refused)
    → IsFreshReply seen (made s old edits tables r).reply
fresh-made s seen old edits tables (Ok new) = tt
fresh-made s seen old edits tables (Err r) = tt

fresh-undo : (s : State) (seen : ℕ) (named : Option ℕ) (ds : List Done) → IsFreshReply seen (undo_answer s named ds).reply
fresh-undo s seen named [] = tt
fresh-undo s seen named (d ∷ ds) =
    cond_both (λ a. IsFreshReply seen a.reply) (names named d.group)
    (record {
      reply = changed (latest s + 1) d.group s.next_id;
      state =
          record (again s d.before d.after) { undo = ds; redo = d ∷ s.redo };
    })
    (stays s (not_top d.group)) tt tt

fresh-redo : (s : State) (seen : ℕ) (ds : List Done) → IsFreshReply seen (redo_answer s ds).reply
fresh-redo s seen [] = tt
fresh-redo s seen (d ∷ ds) = tt

fresh-tile : (d : Document) (seen stack : ℕ) (at : TileAt) (version : ℕ) → seen ≤ version
    → IsFreshReply seen (tile_reply d stack at (tile_of version))
fresh-tile d seen stack at version le =
    fresh_cond seen (not (has_stack d stack)) (no_stack stack)
    (cond (not (is_on_grid d.width d.height at)) outside_tile (tile_of version)) tt
    (fresh_cond seen (not (is_on_grid d.width d.height at)) outside_tile (tile_of version) tt le)

-- the machine's answer is fresh to whoever has seen the last version or less
pub fresh-answer : (base : Document) (s : State) (call : Call) (tables : List (List ℕ)) (seen : ℕ)
    → seen ≤ latest s → IsFreshReply seen (answer base s call tables).reply
fresh-answer base s (edit guard edits) tables seen le =
    let old : At = record { document = document_at base s (latest s); next = s.next_id } in
    cond_both (λ a. IsFreshReply seen a.reply) (names guard (latest s)) (made s old edits tables (apply_group old edits tables))
    (stays s (moved (latest s)))
    (fresh-made s seen old edits tables (apply_group old edits tables)) tt
fresh-answer base s (undo named) tables seen le = fresh-undo s seen named s.undo
fresh-answer base s redo tables seen le = fresh-redo s seen s.redo
fresh-answer base s (tile stack at) tables seen le = fresh-tile (document_at base s (latest s)) seen stack at (latest s) le
fresh-answer base s (peek stack at) tables seen le = fresh-tile (document_at base s (latest s)) seen stack at (latest s) le
fresh-answer base s top tables seen le = tt
