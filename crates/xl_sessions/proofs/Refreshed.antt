-- A call of a session that has heard what others made since, as it does where a tile is composed before the call.
use Rattle.std.proofs.Common.{◌≡◌, ℕ, ◌≤◌, Bool, true, false, cond, not, List, [], ◌∷◌, ◌++◌, length, Option, None}
use Rattle.std.proofs.Common.{refl, sym, ap, ◌∙◌, subst, arith}
use Rattle.std.specs.Prelude.{MatchBool, Result, Ok, Err, IfOk, OnErr}
use Rattle.spec_document.specs.Document.{Document}
use Rattle.spec_filters.specs.declared.FilterState.{FilterState}
use Rattle.spec_document.specs.declared.TileAt.{TileAt}
use Rattle.spec_document.specs.Grid.{is_on_grid}
use Rattle.spec_history.specs.Machine.{Call, edit, undo, redo, tile, peek, top, Reply, tile_of, no_stack, outside_tile, history_full}
use Rattle.spec_history.specs.Machine.{State, latest, document_at, has_stack, initial}
use Rattle.spec_history.specs.History.{Entry, asked, after_entry, latest_of, MayBe, RunFrom}
use Rattle.spec_history.specs.Kept.{IsFreshReply, IsLegal}
use Rattle.spec_tables.specs.Tables.{expected_tables}
use Rattle.xl_studio.specs.History.{is_full}
use Rattle.xl_turn.proofs.Fronts.{prefix_trans}
use Rattle.xl_studio.specs.declared.moment.Moment.{Moment}
use Rattle.xl_studio.specs.declared.moment.Moment.TheVariants.{Made}
use Rattle.xl_studio.specs.Answered.{IsReplied}
use Rattle.xl_studio.specs.Calling.{called_entry, Known, IsCalled, HasHeard, IsNoTile}
use Rattle.xl_studio.specs.Moments.{entries_in}
use Rattle.xl_studio.specs.Seats.{history_of}
use Rattle.xl_studio.proofs.Answered.{called_with}
use Rattle.xl_studio.proofs.Grown.{entries-append, entries-prefix}
use Rattle.xl_studio.proofs.Refreshed.{heard_on}
use Rattle.xl_studio.proofs.Seated.{latest_prefix}

-- ---- a tile is never stale, so that it is as fresh for who had heard less

less_said : (less more : ℕ) → less ≤ more → (here there : Bool) (stack version : ℕ)
    → IsFreshReply more (cond here (no_stack stack) (cond there outside_tile (tile_of version)))
    → IsFreshReply less (cond here (no_stack stack) (cond there outside_tile (tile_of version)))
less_said less more le true there stack version fresh = tt
less_said less more le false true stack version fresh = tt
less_said less more le false false stack version fresh =
    let late : more ≤ version = fresh in
    let early : less ≤ version = omega (arith, le, late) in
    early

last_tile : (base : Document) (s : State) (earlier es : List Entry) (e : Entry) (stack : ℕ) (at : TileAt) (tables : List (List ℕ))
    (less more : ℕ) → less ≤ more → e.kind ≡ asked (tile stack at) tables → RunFrom base s earlier (es ++ e ∷ [])
    → IsFreshReply more e.reply → IsFreshReply less e.reply
last_tile base s earlier [] e stack at tables less more le is run fresh =
    let may = subst (MayBe base s earlier e) is run.0 in
    let d = document_at base s (latest s) in
    subst (IsFreshReply less) (sym may.1)
    (less_said less more le (not (has_stack d stack)) (not (is_on_grid d.width d.height at)) stack (latest s)
    (subst (IsFreshReply more) may.1 fresh))
last_tile base s earlier (x ∷ es) e stack at tables less more le is run fresh =
    last_tile base (after_entry base s x) (earlier ++ x ∷ []) es e stack at tables less more le is run.1 fresh

module _ {K : Type 0} where
  -- ---- what it made and heard

  called_on : (base : Document) (session : ℕ) (call : Call) (tables : List (List ℕ)) (reply : Reply) (old mid new : Known K)
      → HasHeard old mid → IsCalled base session call tables reply mid new → IsCalled base session call tables reply old new
  called_on base session call tables reply old mid new heard called =
      let entered = called.entered in
      record {
        entered = entered;
        begins = prefix_trans old.front mid.front entered heard.begins called.begins;
        made = subst (λ (made : List ℕ). MatchBool (is_full (history_of base entered))
            ((reply ≡ history_full) × (new.front ≡ entered) × (new.made ≡ made))
            ((new.front ≡ entered ++ Made (called_entry (entries_in entered) session call tables reply) None ∷ [])
            × (new.made ≡ made ++ length (entries_in entered) ∷ []))) heard.made called.made;
      }

  pub failed_on : {R E : Type 0} (r : Result R E) (old mid new : Known K) → HasHeard old mid → OnErr r (HasHeard mid new)
      → OnErr r (HasHeard old new)
  failed_on (Ok reply) old mid new heard then = tt
  failed_on (Err e) old mid new heard then = heard_on old mid new heard then

  -- ---- how fresh it is

  fresh_where : (full : Bool) (base : Document) (session stack : ℕ) (at : TileAt) (tables : List (List ℕ)) (reply : Reply)
      (mid new : Known K) (entered : List (Moment K)) (less more : ℕ) → less ≤ more
      → MatchBool full ((reply ≡ history_full) × (new.front ≡ entered) × (new.made ≡ mid.made))
      ((new.front ≡ entered ++ Made (called_entry (entries_in entered) session (tile stack at) tables reply) None ∷ [])
      × (new.made ≡ mid.made ++ length (entries_in entered) ∷ []))
      → IsLegal base (entries_in new.front) → IsFreshReply more reply → IsFreshReply less reply
  fresh_where true base session stack at tables reply mid new entered less more le is legal fresh =
      subst (IsFreshReply less) (sym is.0) tt
  fresh_where false base session stack at tables reply mid new entered less more le is legal fresh =
      let e : Entry = called_entry (entries_in entered) session (tile stack at) tables reply in
      let last : entries_in new.front ≡ entries_in entered ++ e ∷ [] =
      ap entries_in is.0 ∙ entries-append entered (Made e None ∷ []) in
      last_tile base (initial base) [] (entries_in entered) e stack at tables less more le refl
      (subst (IsLegal base) last legal).run fresh

  fresh_call : (base : Document) (session : ℕ) (call : Call) (tables : List (List ℕ)) (reply : Reply) (old mid new : Known K)
      → HasHeard old mid → (IsNoTile call → mid ≡ old) → IsCalled base session call tables reply mid new
      → IsLegal base (entries_in new.front) → IsFreshReply (latest_of (entries_in mid.front)) reply
      → IsFreshReply (latest_of (entries_in old.front)) reply
  fresh_call base session (tile stack at) tables reply old mid new heard same called legal fresh =
      fresh_where (is_full (history_of base called.entered)) base session stack at tables reply mid new called.entered
      (latest_of (entries_in old.front)) (latest_of (entries_in mid.front))
      (latest_prefix (entries_in old.front) (entries_in mid.front) (entries-prefix old.front mid.front heard.begins))
      called.made legal fresh
  fresh_call base session (edit guard edits) tables reply old mid new heard same called legal fresh =
      subst (λ (k : Known K). IsFreshReply (latest_of (entries_in k.front)) reply) (same tt) fresh
  fresh_call base session (undo named) tables reply old mid new heard same called legal fresh =
      subst (λ (k : Known K). IsFreshReply (latest_of (entries_in k.front)) reply) (same tt) fresh
  fresh_call base session redo tables reply old mid new heard same called legal fresh =
      subst (λ (k : Known K). IsFreshReply (latest_of (entries_in k.front)) reply) (same tt) fresh
  fresh_call base session (peek stack at) tables reply old mid new heard same called legal fresh =
      subst (λ (k : Known K). IsFreshReply (latest_of (entries_in k.front)) reply) (same tt) fresh
  fresh_call base session top tables reply old mid new heard same called legal fresh =
      subst (λ (k : Known K). IsFreshReply (latest_of (entries_in k.front)) reply) (same tt) fresh

  pub replied_on : {E : Type 0} (R : Type 0) (reply_of : R → Reply) (r : Result R E) (base : Document) (session : ℕ) (call : Call)
      (before after : List (Option FilterState)) (bytes : List ℕ) (old mid new : Known K)
      → HasHeard old mid → (IsNoTile call → mid ≡ old) → IsLegal base (entries_in new.front)
      → IfOk r (λ reply. IsReplied base session call before after bytes mid new (reply_of reply))
      → IfOk r (λ reply. IsReplied base session call before after bytes old new (reply_of reply))
  replied_on R reply_of (Ok reply) base session call before after bytes old mid new heard same legal replied =
      let with = called_with replied in
      record {
        called = λ filters agrees. called_on base session call (expected_tables filters (asked call []) (reply_of reply))
            (reply_of reply) old mid new heard (replied.called filters agrees);
        made = λ none. called_on base session call [] (reply_of reply) old mid new heard (replied.made none);
        fresh = fresh_call base session call with.0 (reply_of reply) old mid new heard same with.1 legal replied.fresh;
        shown = replied.shown;
        chest = replied.chest;
      }
  replied_on R reply_of (Err e) base session call before after bytes old mid new heard same legal replied = tt
