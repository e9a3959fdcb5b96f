-- What a call that is submitted leaves: one entry more, with the line that is printed for it.
use Rattle.spec_history.specs.declared.TheConstants.{MAX_ENTRIES}
use Rattle.std.proofs.Common.{◌≡◌, ℕ, ◌+◌, ◌≤◌, Bool, true, false, cond, List, [], ◌∷◌, ◌++◌, length, None, refl, ap, sym}
use Rattle.std.proofs.Common.{◌∙◌, subst, arith, ne_eqb}
use Rattle.std.specs.Prelude.{◌==◌, Option, Result, Ok, Err}
use Rattle.spec_document.specs.declared.TileAt.{TileAt}
use Rattle.spec_document.specs.Document.{Document}
use Rattle.spec_document.specs.Limits.{IsDocument}
use Rattle.spec_edit.specs.Edit.{Edit}
use Rattle.spec_edit.specs.Apply.{At, Refused, apply_group}
use Rattle.spec_history.specs.Machine.{Call, edit, undo, redo, tile, peek, top, moved, Reply, tile_of, history_full}
use Rattle.spec_history.specs.Machine.{State, Done, Answer, latest, document_at, names, stays, made, undo_answer}
use Rattle.spec_history.specs.Machine.{redo_answer}
use Rattle.spec_history.specs.History.{Entry, asked, replay, next_index}
use Rattle.spec_history.specs.Kept.{IsLegal, kept}
use Rattle.spec_history.specs.Limited.{AreCalls}
use Rattle.spec_history.proofs.Growing.{cond_both, AsksCall-last}
use Rattle.spec_history.proofs.Versions.{latest_of-legal}
use Rattle.spec_filters.specs.declared.FilterState.{FilterState}
use Rattle.spec_tables.specs.Tables.{expected_tables}
use Rattle.spec_tables.specs.Agrees.{Agrees, IsAfter}
use Rattle.spec_tables.proofs.Chests.{some_list}
use Rattle.spec_text.specs.Printed.{line_text}
use Rattle.spec_text.specs.Text.{digest_of, shown_digest, IsAlonePeek, IsAlone}
use Rattle.spec_world.specs.World.{World, entries_owed, free_entries}
use Rattle.spec_world.specs.Events.{Outcome, reply_to, with_call, submit, submits}
use Rattle.spec_world.specs.Right.{IsRight}
use Rattle.spec_world.specs.Exact.{SlotsAreExact}
use Rattle.spec_world.proofs.StaysExact.{stays-so}
use Rattle.xl_history.specs.Editing.{Editing, world, IsSubmitted}
use Rattle.xl_history.specs.History as core
use Rattle.xl_history.specs.History.{History, version, Shows}
use Rattle.xl_calls.specs.declared.reply.Reply as code
use Rattle.xl_calls.specs.declared.reply.Reply.TheVariants.{SaveMemory, HistoryFull}
use Rattle.xl_calls.specs.Replies.{reply_of}
use Rattle.xl_script.specs.Printed.{HasText}
use Rattle.xl_play.specs.Playing.{ArePlayed, IsCalled, shown_of}
use Rattle.xl_run.specs.Opening.{KeepsExactly}
use Rattle.xl_play.proofs.Alone.{alone_peek}
use Rattle.xl_play.proofs.Answered.{IsSaid, reply_said}
use Rattle.xl_play.proofs.Grown.{played_call}

-- ---- what is shown

made_shown : (s : State) (old : At) (es : List Edit) (tables : List (List ℕ)) (r : Result At Refused) (bytes : List ℕ)
    → shown_of (made s old es tables r).reply bytes ≡ []
made_shown s old es tables (Err r) bytes = refl
made_shown s old es tables (Ok new) bytes = refl

undo_shown : (s : State) (named : Option ℕ) (ds : List Done) (bytes : List ℕ) → shown_of (undo_answer s named ds).reply bytes ≡ []
undo_shown s named [] bytes = refl
undo_shown s named (d ∷ ds) bytes = cond_both (λ (a : Answer). shown_of a.reply bytes ≡ []) (names named d.group) _ _ refl refl

redo_shown : (s : State) (ds : List Done) (bytes : List ℕ) → shown_of (redo_answer s ds).reply bytes ≡ []
redo_shown s [] bytes = refl
redo_shown s (d ∷ ds) bytes = refl

by_tile : (h : History) (stack : ℕ) (at : TileAt) (tables : List (List ℕ)) (r : Reply) (bytes : List ℕ)
    → Shows h (tile stack at) r bytes
    → shown_of r bytes ≡ shown_digest h.base h.entries (asked (tile stack at) tables) r
by_tile h stack at tables (tile_of v) bytes shows = ap digest_of shows
by_tile h stack at tables r bytes shows = refl

by_peek : (h : History) (stack : ℕ) (at : TileAt) (tables : List (List ℕ)) (r : Reply) (bytes : List ℕ)
    → Shows h (peek stack at) r bytes
    → shown_of r bytes ≡ shown_digest h.base h.entries (asked (peek stack at) tables) r
by_peek h stack at tables (tile_of v) bytes shows = ap digest_of shows
by_peek h stack at tables r bytes shows = refl

-- the digest of the line is that of the tile in the desk
pub reply_shown : (h : History) (base : Document) (w : World) (c : Call) (seen : ℕ) (tables : List (List ℕ)) (bytes : List ℕ)
    → Shows h c (reply_to base w c seen tables) bytes
    → shown_of (reply_to base w c seen tables) bytes ≡ shown_digest h.base h.entries (asked c tables)
    (reply_to base w c seen tables)
reply_shown h base w (edit guard es) seen tables bytes shows =
    let s = w.state in
    let old : At = record { document = document_at base s (latest s); next = s.next_id } in
    cond_both (λ (a : Answer). shown_of a.reply bytes ≡ []) (names guard (latest s))
    (made s old es tables (apply_group old es tables)) (stays s (moved (latest s)))
    (made_shown s old es tables (apply_group old es tables) bytes) refl
reply_shown h base w (undo named) seen tables bytes shows = undo_shown w.state named w.state.undo bytes
reply_shown h base w redo seen tables bytes shows = redo_shown w.state w.state.redo bytes
reply_shown h base w (tile stack at) seen tables bytes shows =
    by_tile h stack at tables (reply_to base w (tile stack at) seen tables) bytes shows
reply_shown h base w (peek stack at) seen tables bytes shows =
    by_peek h stack at tables (reply_to base w (peek stack at) seen tables) bytes shows
reply_shown h base w top seen tables bytes shows = refl

-- ---- the call is taken

-- two entries are free, and no save is out
pub record HasRoom (h : History) : Type 0 where
  pub free : length h.entries + 2 ≤ MAX_ENTRIES
  pub ended : (replay h.base h.entries).out ≡ None

pub text_of : (seen : ℕ) (reply : code.Reply) → IsSaid seen (reply_of reply) → HasText reply
text_of seen (SaveMemory v) h = absurd h
text_of seen HistoryFull h = absurd h
text_of seen reply h = tt

module _ {D : Type 0} where
  not_full : (c : Editing D) → HasRoom c.history → (free_entries (world c) == 0) ≡ false
  not_full c room =
      let free = room.free in
      let none : entries_owed (replay c.history.base c.history.entries).out ≡ 0 = ap entries_owed room.ended in
      ne_eqb (free_entries (world c)) 0 (λ q. omega (arith, none, free, q))

  -- a history with room takes the call
  pub record IsTaken (old : Editing D) (session : ℕ) (c : Call) (seen : ℕ) (tables : List (List ℕ)) (reply : Reply)
      (new : Editing D) : Type 0 where
    pub replied : reply ≡ reply_to old.history.base (world old) c seen tables
    pub grown : new.history ≡ core.with_call old.history session c tables reply

  pub taken : (old : Editing D) (session : ℕ) (c : Call) (seen : ℕ) (tables : List (List ℕ)) (reply : Reply) (new : Editing D)
      → HasRoom old.history → IsSubmitted old session c seen tables reply new
      → IsTaken old session c seen tables reply new
  taken old session c seen tables reply new room submitted =
      let b = old.history.base in
      let w = world old in
      let full : Outcome = record { reply = history_full; world = w } in
      let given = reply_to b w c seen tables in
      let done : Outcome = record { reply = given; world = with_call b w session c tables given } in
      let free = not_full old room in
      let replied : reply ≡ given = submitted.1 ∙ ap (λ (t : Bool). (cond t full done).reply) free in
      let worlds : world new ≡ with_call b w session c tables given =
      submitted.2 ∙ ap (λ (t : Bool). (cond t full done).world) free in
      let entry : Reply → Entry =
      λ r. record { session = session; index = next_index old.history.entries session; kind = asked c tables; reply = r } in
      let entries : new.history.entries ≡ old.history.entries ++ entry reply ∷ [] =
      ap (λ (v : World). v.entries) worlds ∙ ap (λ (r : Reply). old.history.entries ++ entry r ∷ []) (sym replied) in
      record { replied = replied; grown = λ i. record { base = submitted.0 i; entries = entries i } }

  -- the state of a core is that of its last version
  now_is : (c : Editing D) → IsLegal c.history.base c.history.entries → latest (world c).state ≡ version c.history
  now_is c legal = sym (latest_of-legal c.history.base c.history.entries legal)

  no_later : (c : Editing D) (seen : ℕ) → IsLegal c.history.base c.history.entries → seen ≡ version c.history
      → seen ≤ latest (world c).state
  no_later c seen legal last = let now = last ∙ sym (now_is c legal) in omega (arith, now)

  said : (old : Editing D) (session : ℕ) (c : Call) (seen : ℕ) (tables : List (List ℕ)) (reply : Reply) (new : Editing D)
      → HasRoom old.history → IsLegal old.history.base old.history.entries
      → seen ≡ version old.history → IsSubmitted old session c seen tables reply new → IsSaid seen reply
  said old session c seen tables reply new room legal last submitted =
      subst (IsSaid seen) (sym (taken old session c seen tables reply new room submitted).replied)
      (reply_said old.history.base (world old) c seen tables (no_later old seen legal last))

  -- ---- what it leaves

  -- the slots stay exact, whether the history takes the call or is full
  exact_after : (old : Editing D) (session : ℕ) (c : Call) (seen : ℕ) (tables : List (List ℕ)) → KeepsExactly old
      → seen ≤ latest (world old).state → AreCalls (submit old.history.base (world old) session c seen tables).world.entries
      → SlotsAreExact old.history.base (submit old.history.base (world old) session c seen tables).world
  exact_after old session c seen tables exactly le calls = go (free_entries (world old) == 0) refl calls
    where
      w : World
      w = world old

      full : Outcome
      full = record { reply = history_full; world = w }

      given : Reply
      given = reply_to old.history.base w c seen tables

      done : Outcome
      done = record { reply = given; world = with_call old.history.base w session c tables given }

      entry : Entry
      entry = record { session = session; index = next_index w.entries session; kind = asked c tables; reply = given }

      go : (b : Bool) → (free_entries w == 0) ≡ b → AreCalls (cond b full done).world.entries
          → SlotsAreExact old.history.base (cond b full done).world
      go true is calls = exactly.exact
      go false is calls =
          let asks = AsksCall-last w.entries entry calls in
          subst (λ (b : Bool). SlotsAreExact old.history.base (cond b full done).world) is
          (stays-so old.history.base exactly.within w (submits session c seen tables) exactly.right exactly.exact
          (le, asks.0, asks.1) tt)

  -- the kept pictures are just those that have to be kept still
  keeps : (old : Editing D) (session : ℕ) (c : Call) (seen : ℕ) (tables : List (List ℕ)) (reply : Reply) (new : Editing D)
      → KeepsExactly old → IsLegal old.history.base old.history.entries
      → seen ≡ version old.history → IsSubmitted old session c seen tables reply new → IsRight new.history.base (world new)
      → KeepsExactly new
  keeps old session c seen tables reply new exactly legal last submitted right = record {
    within = subst IsDocument (sym submitted.0) exactly.within;
    right = right;
    exact = subst (λ (b : Document). SlotsAreExact b (world new)) (sym submitted.0)
        (subst (SlotsAreExact old.history.base) (sym submitted.2)
        (exact_after old session c seen tables exactly (no_later old seen legal last)
        (subst (λ (v : World). AreCalls v.entries) submitted.2 right.legal.calls)));
  }

  -- what a peek of session 0 alone is answered follows from the entries
  alone : (old : Editing D) (c : Call) (seen : ℕ) (tables : List (List ℕ)) → KeepsExactly old
      → IsLegal old.history.base old.history.entries → seen ≡ version old.history
      → IsAlone old.history.base old.history.entries (asked c tables) (reply_to old.history.base (world old) c seen tables) []
  alone old (edit guard es) seen tables exactly legal last = tt
  alone old (undo named) seen tables exactly legal last = tt
  alone old redo seen tables exactly legal last = tt
  alone old (tile stack at) seen tables exactly legal last = tt
  alone old top seen tables exactly legal last = tt
  alone old (peek stack at) seen tables exactly legal last =
      let b = old.history.base in
      let es = old.history.entries in
      let is : seen ≡ latest (world old).state = last ∙ sym (now_is old legal) in
      subst (λ (n : ℕ). IsAlonePeek (kept b es stack at) n (reply_to b (world old) (peek stack at) seen tables)) (now_is old legal)
      (alone_peek b (world old) stack at seen tables exactly.right exactly.exact is)

  submitted_played : (old : Editing D) (c : Call) (seen : ℕ) (tables : List (List ℕ)) (reply : Reply)
      (new : Editing D) (bytes out : List ℕ) → HasRoom old.history → KeepsExactly old
      → seen ≡ version old.history → ArePlayed old.history.base old.history.entries out
      → IsSubmitted old 0 c seen tables reply new
      → IsLegal new.history.base new.history.entries → Shows new.history c reply bytes
      → ArePlayed new.history.base new.history.entries
      (out ++ line_text 0 (next_index old.history.entries 0) (shown_of reply bytes) reply)
  submitted_played old c seen tables reply new bytes out room exactly last played submitted legal shows =
      let is = taken old 0 c seen tables reply new room submitted in
      let h = old.history in
      let whole = core.with_call h 0 c tables reply in
      let shown : shown_of reply bytes ≡ shown_digest whole.base whole.entries (asked c tables) reply =
      subst (λ (r : Reply). Shows whole c r bytes → shown_of r bytes ≡ shown_digest whole.base whole.entries (asked c tables) r)
      (sym is.replied)
      (reply_shown whole h.base (world old) c seen tables bytes)
      (subst (λ (g : History). Shows g c reply bytes) is.grown shows) in
      let more =
      played_call h.base h.entries out c tables reply played
      (subst (λ (n : ℕ). IsSaid n reply) last (said old 0 c seen tables reply new room played.legal last submitted))
      (subst (λ (r : Reply). IsAlone h.base h.entries (asked c tables) r []) (sym is.replied)
      (alone old c seen tables exactly played.legal last))
      (subst (λ (g : History). IsLegal g.base g.entries) is.grown legal) in
      subst (λ (g : History).
      ArePlayed g.base g.entries (out ++ line_text 0 (next_index h.entries 0) (shown_of reply bytes) reply))
      (sym is.grown)
      (subst (λ (digest : List ℕ).
      ArePlayed whole.base whole.entries (out ++ line_text 0 (next_index h.entries 0) digest reply)) (sym shown)
      more)

  -- ---- with the tables that the chest's filters answer

  -- the answer, for each list of filters with which the chest agrees
  abbrev pub AnswersBy : (chest : List (Option FilterState)) (old : Editing D) (session : ℕ) → Call → (seen : ℕ) → Reply
      → (new : Editing D) → Type 0
  AnswersBy chest old session c seen reply new =
      (filters : List FilterState) → Agrees chest filters
      → IsSubmitted old session c seen (expected_tables filters (asked c []) reply) reply new

  -- the call is taken with the tables of some such list
  pub chest_taken : (chest : List (Option FilterState)) (old : Editing D) (session : ℕ) (c : Call) (seen : ℕ) (reply : Reply)
      (new : Editing D) → HasRoom old.history → AnswersBy chest old session c seen reply new
      → (tables : List (List ℕ)) × IsTaken old session c seen tables reply new
  chest_taken chest old session c seen reply new room answers =
      let some = some_list chest in
      let tables = expected_tables some.0 (asked c []) reply in
      (tables, taken old session c seen tables reply new room (answers some.0 some.1))

  pub chest_called : (before after : List (Option FilterState)) (old : Editing D) (session : ℕ) (c : Call) (seen : ℕ)
      (reply : Reply) (new : Editing D) → HasRoom old.history
      → AnswersBy before old session c seen reply new → IsAfter before after c reply
      → IsCalled old.history session c before after new.history
  chest_called before after old session c seen reply new room answers used = record {
    reply = reply;
    grown = λ filters agrees.
        (taken old session c seen (expected_tables filters (asked c []) reply) reply new room (answers filters agrees)).grown;
    used = used;
  }

  pub chest_base : (chest : List (Option FilterState)) (old : Editing D) (session : ℕ) (c : Call) (seen : ℕ) (reply : Reply)
      (new : Editing D)
      → AnswersBy chest old session c seen reply new → new.history.base ≡ old.history.base
  chest_base chest old session c seen reply new answers = let some = some_list chest in (answers some.0 some.1).0

  pub chest_keeps : (chest : List (Option FilterState)) (old : Editing D) (session : ℕ) (c : Call) (seen : ℕ) (reply : Reply)
      (new : Editing D) → KeepsExactly old
      → IsLegal old.history.base old.history.entries → seen ≡ version old.history → AnswersBy chest old session c seen reply new
      → IsRight new.history.base (world new) → KeepsExactly new
  chest_keeps chest old session c seen reply new exactly legal last answers right =
      let some = some_list chest in
      keeps old session c seen (expected_tables some.0 (asked c []) reply) reply new exactly legal last (answers some.0 some.1)
      right

  pub chest_text : (chest : List (Option FilterState)) (old : Editing D) (session : ℕ) (c : Call) (seen : ℕ) (reply : code.Reply)
      (new : Editing D) → HasRoom old.history
      → IsLegal old.history.base old.history.entries → seen ≡ version old.history
      → AnswersBy chest old session c seen (reply_of reply) new → HasText reply
  chest_text chest old session c seen reply new room legal last answers =
      let some = some_list chest in
      text_of seen reply (said old session c seen (expected_tables some.0 (asked c []) (reply_of reply)) (reply_of reply) new room
      legal last (answers some.0 some.1))

  -- the line that is printed is that of the call
  pub chest_printed : (chest : List (Option FilterState)) (old : Editing D) (c : Call) (seen : ℕ) (reply : Reply)
      (new : Editing D) (bytes out : List ℕ) (index : ℕ) (digest text : List ℕ)
      → HasRoom old.history → KeepsExactly old → seen ≡ version old.history
      → ArePlayed old.history.base old.history.entries out → AnswersBy chest old 0 c seen reply new
      → IsLegal new.history.base new.history.entries → Shows new.history c reply bytes
      → index ≡ next_index old.history.entries 0 → digest ≡ shown_of reply bytes
      → text ≡ out ++ line_text 0 index digest reply
      → ArePlayed new.history.base new.history.entries text
  chest_printed chest old c seen reply new bytes out index digest text room exactly last played answers legal shows at is printed =
      let some = some_list chest in
      let next = next_index old.history.entries 0 in
      let whole : text ≡ out ++ line_text 0 next (shown_of reply bytes) reply =
      printed ∙ ap (λ (n : ℕ). out ++ line_text 0 n digest reply) at
      ∙ ap (λ (d : List ℕ). out ++ line_text 0 next d reply) is in
      subst (ArePlayed new.history.base new.history.entries) (sym whole)
      (submitted_played old c seen (expected_tables some.0 (asked c []) reply) reply new bytes out room exactly last
      played (answers some.0 some.1) legal shows)
