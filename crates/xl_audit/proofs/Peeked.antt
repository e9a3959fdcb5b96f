-- A peek passes, and the walk has come through its entry, or it fails.
use Rattle.std.proofs.Common.{◌≡◌, ℕ, ◌+◌, ◌≤◌, Bool, true, false, cond, not, List, [], ◌∷◌, ◌++◌, length, refl, sym, ◌∙◌}
use Rattle.std.proofs.Common.{ap, subst, arith, inl, inr}
use Rattle.std.specs.Prelude.{◌&&◌, Option, slice_index, slice_set, slice_get, unwrap_or, MatchBool, option_map, nat_le}
use Rattle.std.specs.Str.{bytes_eq}
use Rattle.std.proofs.lemmas.List.{length-set}
use Rattle.std.proofs.lemmas.Bool.{leb-true}
use Rattle.spec_document.specs.declared.TileAt.{TileAt}
use Rattle.spec_document.specs.Grid.{is_on_grid}
use Rattle.spec_document.specs.Document.{Document}
use Rattle.spec_document.specs.Picture.{project}
use Rattle.spec_filters.specs.declared.FilterState.{FilterState}
use Rattle.spec_cache.specs.Cache as cache
use Rattle.spec_history.specs.declared.TheConstants.{MAX_ENTRIES}
use Rattle.spec_history.specs.Machine as machine
use Rattle.spec_history.specs.Machine.{Reply, State, latest, document_at, answer, has_stack, tile_of}
use Rattle.spec_history.specs.History.{Entry, asked, replay, is_changed, document_of, Answers, PeekAnswers, MayPeek}
use Rattle.spec_history.specs.Kept.{kept}
use Rattle.spec_history.proofs.Canvas.{canvas-document}
use Rattle.spec_history.proofs.Growing.{cond_both}
use Rattle.spec_script.specs.Script as lines
use Rattle.spec_tables.specs.Agrees.{Agrees}
use Rattle.spec_tables.proofs.Made.{tables_made, filters_made}
use Rattle.spec_text.specs.declared.OrderWord.{OrderWord}
use Rattle.spec_text.specs.Text.{digest_of, shown_digest}
use Rattle.spec_audit.specs.Output.{Printed, Output}
use Rattle.spec_audit.specs.Reading.{plain}
use Rattle.spec_audit.specs.Walk.{Start, call_at, printed_at, entry_at, seen_by, IsAllowed, Passes}
use Rattle.spec_audit.proofs.Decides.{peek_passes, passes_peek}
use Rattle.spec_audit.proofs.Pieces.{and_parts, and_both}
use Rattle.spec_audit.proofs.Going as going
use Rattle.spec_standing.specs.Now.{Now, world_of, Stands}
use Rattle.spec_standing.proofs.GoesOn.{few-versions}
use Rattle.spec_standing.proofs.Pictures.{is_right}
use Rattle.xl_judging.specs.Judging.{peek_fits, Decides, shows_of, shows_version, PeekIsRight}
use Rattle.xl_judging.specs.Versions.{version_named, version_shown, WantsIfAny, HasVersions}
use Rattle.xl_audit.specs.Walking.{HasCome, IsNextWord, IsJudged, IsCounted, filters_at}
use Rattle.xl_audit.specs.declared.walk.Walk.{Walk}
use Rattle.xl_audit.proofs.Entering.{come_quietly, stands_peeked, out_called, entry_peek}
use Rattle.xl_judging.proofs.Judged.{IsThereAt, fits_peek, peek_is_fit}
use Rattle.xl_audit.proofs.Shown.{same_bytes, bytes_same, kept_is}

-- ---- a peek makes no version

may_unchanged : (base : Document) (s : State) (stack : ℕ) (r : Reply) → MayPeek base s stack r → is_changed r ≡ false
may_unchanged base s stack (machine.changed version group next) may = absurd may
may_unchanged base s stack r may = refl

peek_unchanged : (base : Document) (s : State) (stack : ℕ) (at : TileAt) (tables : List (List ℕ)) (r : Reply)
    → Answers base s (machine.peek stack at) tables r → is_changed r ≡ false
peek_unchanged base s stack at tables r answers =
    let d = document_at base s (latest s) in
    let P : Reply → Type 0 = λ p. PeekAnswers base s stack p r → is_changed r ≡ false in
    cond_both P (not (has_stack d stack)) (machine.no_stack stack)
    (cond (not (is_on_grid d.width d.height at)) machine.outside_tile (tile_of (latest s))) (λ is. ap is_changed is)
    (cond_both P (not (is_on_grid d.width d.height at)) machine.outside_tile (tile_of (latest s)) (λ is. ap is_changed is)
    (λ may. may_unchanged base s stack r may)) answers

-- ---- what is shown of the version that is named

grid_at : (base : Document) (es : List Entry) (v : ℕ) (at : TileAt)
    → is_on_grid (document_of base es v).width (document_of base es v).height at ≡ is_on_grid base.width base.height at
grid_at base es v at = let c = canvas-document base es v in λ i. is_on_grid (c.width i) (c.height i) at

shows_right : (base : Document) (es : List Entry) (wanted : List Bool) (shares : List (Option Document)) (stack seen : ℕ) (k : Option ℕ)
    (at : TileAt) (r : Reply) (digest : List ℕ) → HasVersions base (replay base es) wanted shares → latest (replay base es) ≤ MAX_ENTRIES
    → WantsIfAny wanted (version_shown r) → peek_fits (latest (replay base es)) seen k r ≡ true
    → shows_version shares stack at r digest ≡ true
    → IsThereAt base (replay base es) stack r × (digest ≡ shown_digest base es (asked (machine.peek stack at) []) r)
shows_right base es wanted shares stack seen k at (machine.tile_of v) digest has few wants fits shows =
    let s = replay base es in
    let within = leb-true v (latest s) (and_parts (nat_le seen v) (nat_le v (latest s)) (and_parts _ _ fits).0).1 in
    let share = has.each v within (wants (omega (arith, within, few))) in
    let P : Option Document → Type 0 = λ o. shows_of o stack at digest ≡ true in
    let d = document_at base s v in
    let parts = and_parts (has_stack d stack && is_on_grid d.width d.height at) (bytes_eq digest (digest_of (project d stack at)))
    (subst P share shows) in (
      (and_parts (has_stack d stack) (is_on_grid d.width d.height at) parts.0).0,
      same_bytes digest (digest_of (project d stack at)) parts.1,
    )
shows_right base es wanted shares stack seen k at r digest has few wants fits shows = (tt, same_bytes digest [] shows)

right_shows : (base : Document) (es : List Entry) (wanted : List Bool) (shares : List (Option Document)) (stack seen : ℕ) (k : Option ℕ)
    (at : TileAt) (r : Reply) (digest : List ℕ) → HasVersions base (replay base es) wanted shares → latest (replay base es) ≤ MAX_ENTRIES
    → WantsIfAny wanted (version_shown r) → peek_fits (latest (replay base es)) seen k r ≡ true
    → is_on_grid base.width base.height at ≡ true
    → IsThereAt base (replay base es) stack r → digest ≡ shown_digest base es (asked (machine.peek stack at) []) r
    → shows_version shares stack at r digest ≡ true
right_shows base es wanted shares stack seen k at (machine.tile_of v) digest has few wants fits on there shown =
    let s = replay base es in
    let within = leb-true v (latest s) (and_parts (nat_le seen v) (nat_le v (latest s)) (and_parts _ _ fits).0).1 in
    let share = has.each v within (wants (omega (arith, within, few))) in
    let P : Option Document → Type 0 = λ o. shows_of o stack at digest ≡ true in
    let d = document_at base s v in
    subst P (sym share) (and_both (has_stack d stack && is_on_grid d.width d.height at) (bytes_eq digest (digest_of (project d stack at)))
    (and_both (has_stack d stack) (is_on_grid d.width d.height at) there (grid_at base es v at ∙ on))
    (bytes_same digest (digest_of (project d stack at)) shown))
right_shows base es wanted shares stack seen k at r digest has few wants fits on there shown = bytes_same digest [] shown

-- ---- the word

module _ (s : Start) (o : Output) (earlier : List Entry) (w : OrderWord) (next : IsNextWord s o earlier w) (no_end : w.end ≡ false)
    (stack : ℕ) (at : TileAt) (line : call_at s.scripts w ≡ lines.call (machine.peek stack at)) (old : Walk)
    (has : HasCome s.base earlier old) where
  -- the document that stands
  abbrev d : Document
  d = document_at s.base (replay s.base earlier) (latest (replay s.base earlier))

  -- the entry, with the index that the walk has counted
  entry_is : entry_at s o earlier w ≡ entry_peek w.session (slice_index old.made w.session) stack at (printed_at o.replies w).reply
  entry_is =
      let r = (printed_at o.replies w).reply in
      let index : w.index ≡ slice_index old.made w.session = next.index no_end ∙ sym (has.stands.indices w.session next.eight) in
      let none = tables_made (filters_at s earlier w.session) (machine.peek stack at) [] r in
      going.entry_call s o earlier w (machine.peek stack at) line no_end
      ∙ (λ i. record { session = w.session; index = index i; kind = asked (machine.peek stack at) (none i); reply = r })

  allowed_of : Passes s o earlier w
      → IsAllowed s.base earlier (entry_peek w.session (slice_index old.made w.session) stack at (printed_at o.replies w).reply)
      (printed_at o.replies w).digest
  allowed_of pass = subst (λ (x : Entry). IsAllowed s.base earlier x (printed_at o.replies w).digest) entry_is pass

  judged_true : (new : Walk) (chest : List (Option FilterState)) → Agrees chest (filters_at s earlier w.session)
      → new.standing ≡ old.standing → IsCounted old new w.session false
      → IsAllowed s.base earlier (entry_peek w.session (slice_index old.made w.session) stack at (printed_at o.replies w).reply)
      (printed_at o.replies w).digest → IsJudged s o earlier w true new chest
  judged_true new chest agrees same counts allowed =
      let r = (printed_at o.replies w).reply in
      let e = entry_peek w.session (slice_index old.made w.session) stack at r in
      let unchanged = peek_unchanged s.base (replay s.base earlier) stack at [] r allowed.step.1 in
      let few = next.few no_end in
      let stands = stands_peeked s.base earlier old.standing old.made w.session stack at r has.stands has.eight_made next.eight
      allowed.step allowed.kept unchanged (omega (arith, few)) in
      let long = length-set old.made w.session (slice_index old.made w.session + 1) in
      let old_long = has.eight_made in
      let come = come_quietly s.base earlier e old new has next.eight allowed.step allowed.kept unchanged (λ k t. refl)
      (subst (Stands s.base (earlier ++ e ∷ []) old.standing) (sym counts.made) stands) same
      (ap (λ (xs : List ℕ). length xs) counts.made ∙ omega (arith, long, old_long))
      (counts.seen ∙ ap (λ (n : Now). slice_set old.seen w.session n.version) same)
      (out_called s.base earlier w.session (slice_index old.made w.session) (machine.peek stack at) [] r old.out new.out has.out
      counts.out) counts.wanted counts.shares in
      let filters = filters_at s earlier w.session in
      let kept : Agrees chest (filters_at s (earlier ++ e ∷ []) w.session) =
      subst (Agrees chest)
      (sym (going.filters_here (unwrap_or (slice_get s.chests w.session) []) earlier e ∙ filters_made filters (machine.peek stack at) [] r))
      agrees in (
        subst (λ (x : Entry). IsAllowed s.base earlier x (printed_at o.replies w).digest) (sym entry_is) allowed,
        subst (λ (x : Entry). HasCome s.base (earlier ++ x ∷ []) new) (sym entry_is) come,
        subst (λ (x : Entry). Agrees chest (filters_at s (earlier ++ x ∷ []) w.session)) (sym entry_is) kept,
      )

  -- a tile that is not there
  away : (new : Walk) (chest : List (Option FilterState)) (passed : Bool) (r : Reply) → Agrees chest (filters_at s earlier w.session)
      → new.standing ≡ old.standing → (passed ≡ true → IsCounted old new w.session false) → going.IsAway r
      → (answer s.base (replay s.base earlier) (machine.peek stack at) []).reply ≡ r
      → Decides passed (plain r) (printed_at o.replies w) → IsJudged s o earlier w passed new chest
  away new chest true r agrees same counts is_away is decides =
      let P : Printed → Type 0 =
      λ p. IsAllowed s.base earlier (entry_peek w.session (slice_index old.made w.session) stack at p.reply) p.digest in
      judged_true new chest agrees same (counts refl)
      (subst P (sym decides) (going.away_passes s.base earlier w.session (slice_index old.made w.session) stack at [] r
      (has.stands.indices w.session next.eight) is_away is))
  away new chest false r agrees same counts is_away is decides = λ pass.
      let found = going.passes_away s.base earlier w.session (slice_index old.made w.session) stack at [] r
      (printed_at o.replies w).reply (printed_at o.replies w).digest is_away is (allowed_of pass) in
      decides (λ i. record { reply = found.0 i; digest = found.1 i })

  -- a tile that is there
  there : (new : Walk) (chest : List (Option FilterState)) (passed : Bool) → Agrees chest (filters_at s earlier w.session)
      → new.standing ≡ old.standing → (passed ≡ true → IsCounted old new w.session false)
      → WantsIfAny old.versions.wanted.items (version_shown (printed_at o.replies w).reply)
      → has_stack d stack ≡ true → is_on_grid d.width d.height at ≡ true
      → passed ≡ (peek_fits (latest (replay s.base earlier)) (seen_by earlier w.session) (kept s.base earlier stack at)
      (printed_at o.replies w).reply
      && shows_version old.versions.shares.items stack at (printed_at o.replies w).reply (printed_at o.replies w).digest)
      → IsJudged s o earlier w passed new chest
  there new chest true agrees same counts wants stack_is on is =
      let r = (printed_at o.replies w).reply in
      let digest = (printed_at o.replies w).digest in
      let st = replay s.base earlier in
      let parts = and_parts (peek_fits (latest st) (seen_by earlier w.session) (kept s.base earlier stack at) r)
      (shows_version old.versions.shares.items stack at r digest) (sym is) in
      let version : old.standing.version ≡ latest st = ap (λ (n : Now). n.version) has.stands.is_now in
      let most = few-versions s.base earlier old.standing old.made has.stands in
      let right = shows_right s.base earlier old.versions.wanted.items old.versions.shares.items stack (seen_by earlier w.session)
      (kept s.base earlier stack at) at r digest has.versions (omega (arith, version, most)) wants parts.0 parts.1 in
      judged_true new chest agrees same (counts refl)
      (peek_passes s.base earlier w.session (slice_index old.made w.session) stack at [] r digest has.stands.legal.run
      (has.stands.indices w.session next.eight) stack_is on
      (fits_peek s.base st stack (seen_by earlier w.session) (kept s.base earlier stack at) r parts.0 right.0) right.1)
  there new chest false agrees same counts wants stack_is on is = λ pass.
      let r = (printed_at o.replies w).reply in
      let digest = (printed_at o.replies w).digest in
      let st = replay s.base earlier in
      let allowed = allowed_of pass in
      let within = passes_peek s.base earlier w.session (slice_index old.made w.session) stack at [] r digest stack_is on allowed in
      let fit = peek_is_fit s.base st stack (seen_by earlier w.session) (kept s.base earlier stack at) r within in
      let version : old.standing.version ≡ latest st = ap (λ (n : Now). n.version) has.stands.is_now in
      let most = few-versions s.base earlier old.standing old.made has.stands in
      let shows = right_shows s.base earlier old.versions.wanted.items old.versions.shares.items stack (seen_by earlier w.session)
      (kept s.base earlier stack at) at r digest has.versions (omega (arith, version, most)) wants fit.0
      (sym (grid_at s.base earlier (latest st) at) ∙ on) fit.1 allowed.shown in
      let bad : false ≡ true = is ∙ and_both (peek_fits (latest st) (seen_by earlier w.session) (kept s.base earlier stack at) r)
      (shows_version old.versions.shares.items stack at r digest) fit.0 shows in
      cc

  -- what the machine answers
  plain_is : (has on : Bool) → has_stack d stack ≡ has → is_on_grid d.width d.height at ≡ on
      → (answer s.base (replay s.base earlier) (machine.peek stack at) []).reply
      ≡ cond (not has) (machine.no_stack stack) (cond (not on) machine.outside_tile (tile_of (latest (replay s.base earlier))))
  plain_is has on p q =
      λ i. cond (not (p i)) (machine.no_stack stack) (cond (not (q i)) machine.outside_tile (tile_of (latest (replay s.base earlier))))

  judged_here : (new : Walk) (chest : List (Option FilterState)) (passed : Bool) → Agrees chest (filters_at s earlier w.session)
      → new.standing ≡ old.standing → (passed ≡ true → IsCounted old new w.session false)
      → WantsIfAny old.versions.wanted.items (version_shown (printed_at o.replies w).reply)
      → PeekIsRight d (latest (replay s.base earlier)) (seen_by earlier w.session)
      (option_map (λ k. k.version) (cache.kept old.standing.cache stack at (latest (replay s.base earlier))))
      old.versions.shares.items stack at (printed_at o.replies w) passed
      → IsJudged s o earlier w passed new chest
  judged_here new chest passed agrees same counts wants right =
      go (has_stack d stack) (is_on_grid d.width d.height at) refl refl right
    where
      go : (here on : Bool) → has_stack d stack ≡ here → is_on_grid d.width d.height at ≡ on
          → MatchBool here
          (MatchBool on
          (passed ≡ (peek_fits (latest (replay s.base earlier)) (seen_by earlier w.session)
          (option_map (λ k. k.version) (cache.kept old.standing.cache stack at (latest (replay s.base earlier))))
          (printed_at o.replies w).reply
          && shows_version old.versions.shares.items stack at (printed_at o.replies w).reply (printed_at o.replies w).digest))
          (Decides passed (plain machine.outside_tile) (printed_at o.replies w)))
          (Decides passed (plain (machine.no_stack stack)) (printed_at o.replies w))
          → IsJudged s o earlier w passed new chest
      go false on p q decides =
          away new chest passed (machine.no_stack stack) agrees same counts (inl (stack, refl)) (plain_is false on p q) decides
      go true false p q decides =
          away new chest passed machine.outside_tile agrees same counts (inr refl) (plain_is true false p q) decides
      go true true p q is =
          let world = world_of s.base earlier old.standing.cache in
          let same_kept = kept_is s.base world stack at (is_right s.base earlier old.standing old.made has.stands) has.exact p
          (sym (grid_at s.base earlier (latest (replay s.base earlier)) at) ∙ q) in
          there new chest passed agrees same counts wants p q
          (is ∙ ap (λ (k : Option ℕ). peek_fits (latest (replay s.base earlier)) (seen_by earlier w.session) k
          (printed_at o.replies w).reply
          && shows_version old.versions.shares.items stack at (printed_at o.replies w).reply (printed_at o.replies w).digest) same_kept)

  -- by what the walk has counted
  pub peeked : (new : Walk) (chest : List (Option FilterState)) (passed : Bool) → Agrees chest (filters_at s earlier w.session)
      → new.standing ≡ old.standing → (passed ≡ true → IsCounted old new w.session false)
      → WantsIfAny old.versions.wanted.items (version_named (call_at s.scripts w) (printed_at o.replies w).reply)
      → PeekIsRight old.standing.document old.standing.version (slice_index old.seen w.session)
      (option_map (λ k. k.version) (cache.kept old.standing.cache stack at old.standing.version))
      old.versions.shares.items stack at (printed_at o.replies w) passed
      → IsJudged s o earlier w passed new chest
  peeked new chest passed agrees same counts wants right =
      let p = printed_at o.replies w in
      let shares = old.versions.shares.items in
      let R : Document → ℕ → ℕ → Type 0 = λ x v n.
      PeekIsRight x v n (option_map (λ k. k.version) (cache.kept old.standing.cache stack at v)) shares stack at p passed in
      let document : old.standing.document ≡ document_at s.base (replay s.base earlier) (latest (replay s.base earlier)) =
      ap (λ (n : Now). n.document) has.stands.is_now in
      let version : old.standing.version ≡ latest (replay s.base earlier) = ap (λ (n : Now). n.version) has.stands.is_now in
      let seen = has.seen w.session next.eight in
      let now = document_at s.base (replay s.base earlier) (latest (replay s.base earlier)) in
      judged_here new chest passed agrees same counts
      (subst (λ (l : lines.Line). WantsIfAny old.versions.wanted.items (version_named l p.reply)) line wants)
      (subst (R now (latest (replay s.base earlier))) seen
      (subst (λ (v : ℕ). R now v (slice_index old.seen w.session)) version
      (subst (λ (x : Document). R x old.standing.version (slice_index old.seen w.session)) document right)))
