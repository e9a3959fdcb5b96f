-- The walk along the order, word by word.
use Rattle.std.proofs.Common.{◌≡◌, ℕ, zero, suc, ◌+◌, ◌<◌, ◌^◌, Bool, true, false, List, [], ◌∷◌, ◌++◌, length, map, refl, sym, ◌∙◌, ap}
use Rattle.std.proofs.Common.{subst, arith, inl, inr, get_or}
use Rattle.std.specs.Prelude.{Option, Some, None, is_some, slice_get, slice_set, slice_index, unwrap_or}
use Rattle.std.specs.List.{AllByRecursion}
use Rattle.std.proofs.lemmas.Bool.Decides.{eqb_tells}
use Rattle.std.proofs.lemmas.List.{length-set, get_or-set_same, get_or-set_other}
use Rattle.spec_document.specs.Document.{Document}
use Rattle.spec_filters.specs.declared.FilterState.{FilterState}
use Rattle.spec_history.specs.Machine as machine
use Rattle.spec_history.specs.Machine.{Saving}
use Rattle.spec_history.specs.History.{Entry, replay}
use Rattle.spec_script.specs.Fits.{FitsFilters}
use Rattle.spec_script.specs.Script as lines
use Rattle.spec_script.specs.Script.{Line}
use Rattle.spec_tables.specs.Agrees.{Agrees, SameSlots}
use Rattle.spec_text.specs.declared.OrderWord.{OrderWord}
use Rattle.spec_text.specs.Text.{is_save_memory}
use Rattle.spec_audit.specs.Output.{Printed, Output, IsText, IsPrinted, IsMerge, IsShaped, calls_for, is_save}
use Rattle.spec_audit.specs.Walk.{Start, call_at, printed_at, entry_at}
use Rattle.spec_audit.proofs.Going.{filters_elsewhere}
use Rattle.spec_audit.proofs.Links.{IsCallLine}
use Rattle.spec_audit.proofs.Long.{walked_few}
use Rattle.spec_audit.proofs.Merged.{all_get, merge_named, call_line, names_save_at}
use Rattle.spec_audit.proofs.Walking.{Walked, OutFits, walked_begin, walked_more, walked_index, walked_out}
use Rattle.spec_standing.proofs.GoesOn.{few_made}
use Rattle.xl_audit.specs.Auditing.{filters_in, IsFull, FitsChest}
use Rattle.xl_judging.specs.Calls.{calls_in, line_in, IsNoCall}
use Rattle.xl_judging.specs.Versions.{version_named, WantsIfAny, WantsOfWord, AreWanted}
use Rattle.xl_audit.specs.Walking.{HasCome, IsNextWord, IsJudged, MayStand, filters_at}
use Rattle.xl_audit.specs.declared.walk.Walk.{Walk}
use Rattle.xl_judging.proofs.Calling.{line_is}
use Rattle.xl_audit.proofs.Fitting.{full_agrees, full_at, word_fits}

-- ---- what the shape says of a word

beside : (out : Option Saving) (w : OrderWord) (line : Line) (end : Bool) → OutFits end (is_save (Some line)) w out
    → MayStand out w line end
beside None w line true fits = fits
beside (Some x) w line true fits = fits
beside None w line false fits = tt
beside (Some x) w (lines.call c) false fits = tt
beside (Some x) w lines.save false fits = fits
beside (Some x) w (lines.forget slot) false fits = fits

save_line : (line : Line) → IsCallLine line → IsNoCall line → line ≡ lines.save
save_line (lines.call c) is no_call = absurd no_call
save_line lines.save is no_call = refl
save_line (lines.forget slot) is no_call = absurd is

text_prints : (r : machine.Reply) (digest : List ℕ) → IsText r digest → is_save_memory r ≡ false
text_prints (machine.save_memory v) digest is = absurd is
text_prints r digest is = refl

one_prints : (ps : List Printed) (i : ℕ) → AllByRecursion IsPrinted ps
    → is_save_memory (unwrap_or (slice_get ps i) (record { reply = machine.history_full; digest = [] })).reply ≡ false
one_prints [] i all = refl
one_prints (p ∷ ps) zero all = text_prints p.reply p.digest all.0
one_prints (p ∷ ps) (suc i) all = one_prints ps i all.1

-- a printed reply is none that has no text
pub shape_prints : (scripts : List (List Line)) (out : List ℕ) (o : Output) → IsShaped scripts out o → (w : OrderWord) → w.session < 8
    → is_save_memory (printed_at o.replies w).reply ≡ false
shape_prints scripts out o shaped w lt = one_prints (unwrap_or (slice_get o.replies w.session) []) w.index (shaped.replies w.session lt).each

module _ (s : Start) (o : Output) (counts : List ℕ) (fits : FitsFilters counts s.scripts) (merge : IsMerge s.scripts o.order)
    (prints : (w : OrderWord) → w.session < 8 → is_save_memory (printed_at o.replies w).reply ≡ false) where
  pub next_word : (place : ℕ) (earlier : List Entry) (d : OrderWord) → Walked s o place earlier → place < length o.order
      → IsNextWord s o earlier (get_or o.order place d)
  next_word place earlier d walked lt =
      let w = get_or o.order place d in
      let eight = all_get (λ (x : OrderWord). x.session < 8) o.order place d merge.sessions lt in
      let named = all_get (λ (x : OrderWord). x.index < length (calls_for s.scripts x.session)) o.order place d
      (merge_named s.scripts o.order merge) lt in
      let out = walked_out s o place earlier d merge walked lt in
      let P : Bool → Type 0 = λ b. OutFits w.end b w (replay s.base earlier).out in
      record {
        eight = eight;
        index = λ no_end. walked_index s o place earlier d merge walked lt no_end;
        few = λ no_end. walked_few s o place earlier d counts fits merge walked lt no_end;
        stands = beside (replay s.base earlier).out w (call_at s.scripts w) w.end (subst P (names_save_at s.scripts w named) out);
        line = save_line (call_at s.scripts w) (call_line s.scripts w named);
        printable = prints w eight;
      }

-- ---- the loop

-- the words before the place have passed, and the chests have been asked as their calls say
pub record IsAlong (s : Start) (o : Output) (first : List (List (Option FilterState))) (place : ℕ) (walk : Walk)
    (chests : List (List (Option FilterState))) : Type 0 where
  pub earlier : List Entry
  pub walked : Walked s o place earlier
  pub has : HasCome s.base earlier walk
  pub agrees : (session : ℕ) → session < 8 → Agrees (get_or chests session []) (filters_at s earlier session)
  pub slots : (session : ℕ) → session < 8 → SameSlots (unwrap_or (slice_get first session) []) (get_or chests session [])
  pub eight : length chests ≡ 8
  pub wanted : AreWanted (calls_in s.scripts) o.replies walk.versions.wanted.items o.order

pub along_counts : (base : Document) (earlier : List Entry) (walk : Walk) (session : ℕ) → HasCome base earlier walk → session < 8
    → slice_index walk.made session < 2 ^ 31
along_counts base earlier walk session has lt =
    let few = few_made base earlier walk.standing walk.made has.stands session lt in omega (arith, few)

filters_first : (chests : List (List (Option FilterState))) (session : ℕ)
    → unwrap_or (slice_get (map filters_in chests) session) [] ≡ filters_in (unwrap_or (slice_get chests session) [])
filters_first [] session = refl
filters_first (c ∷ chests) zero = refl
filters_first (c ∷ chests) (suc session) = filters_first chests session

pub along_begin : (s : Start) (o : Output) (first : List (List (Option FilterState))) (walk : Walk)
    (chests : List (List (Option FilterState))) → s.chests ≡ map filters_in first → AllByRecursion IsFull first → HasCome s.base [] walk
    → length chests ≡ 8 → ((session : ℕ) → session < 8 → get_or chests session [] ≡ unwrap_or (slice_get first session) [])
    → AreWanted (calls_in s.scripts) o.replies walk.versions.wanted.items o.order → IsAlong s o first 0 walk chests
along_begin s o first walk chests is full has eight same wanted = record {
  earlier = [];
  walked = walked_begin s o;
  has = has;
  agrees = λ session lt.
      let f = unwrap_or (slice_get first session) [] in
      let filters : unwrap_or (slice_get s.chests session) [] ≡ filters_in f =
      ap (λ (c : List (List FilterState)). unwrap_or (slice_get c session) []) is ∙ filters_first first session in
      subst (Agrees (get_or chests session [])) (sym filters)
      (subst (λ (c : List (Option FilterState)). Agrees c (filters_in f)) (sym (same session lt))
      (full_agrees f (full_at first session full)));
  slots = λ session lt. ap (λ (c : List (Option FilterState)). map is_some c) (same session lt);
  eight = eight;
  wanted = wanted;
}

-- one word more
pub along_more : (s : Start) (o : Output) (first : List (List (Option FilterState))) (place : ℕ) (d : OrderWord)
    (old new : Walk) (chests : List (List (Option FilterState))) (chest : List (Option FilterState)) → IsMerge s.scripts o.order
    → (along : IsAlong s o first place old chests) → place < length o.order
    → IsJudged s o along.earlier (get_or o.order place d) true new chest
    → SameSlots (get_or chests (get_or o.order place d).session []) chest → new.versions.wanted.items ≡ old.versions.wanted.items
    → IsAlong s o first (place + 1) new (slice_set chests (get_or o.order place d).session chest)
along_more s o first place d old new chests chest merge along lt judged same kept =
    let w = get_or o.order place d in
    let e = entry_at s o along.earlier w in
    let eight = all_get (λ (x : OrderWord). x.session < 8) o.order place d merge.sessions lt in
    let long = length-set chests w.session chest in
    let old_long = along.eight in
    let inside : w.session < length chests = omega (arith, eight, old_long) in
    record {
      earlier = along.earlier ++ e ∷ [];
      walked = walked_more s o place along.earlier d merge along.walked lt judged.0;
      has = judged.1;
      agrees = λ session below. elim (eqb_tells w.session session) [
        | inl here ↦
            let at : get_or (slice_set chests w.session chest) w.session [] ≡ chest = get_or-set_same chests w.session chest [] inside in
            let P : ℕ → Type 0 =
            λ k. Agrees (get_or (slice_set chests w.session chest) k []) (filters_at s (along.earlier ++ e ∷ []) k) in
            subst P here.1 (subst (λ (c : List (Option FilterState)). Agrees c (filters_at s (along.earlier ++ e ∷ []) w.session)) (sym at)
            judged.2)
        | inr other ↦
            let at : get_or (slice_set chests w.session chest) session [] ≡ get_or chests session [] =
            get_or-set_other chests w.session session chest [] (λ p. other.1 (sym p)) in
            subst (λ (c : List (Option FilterState)). Agrees c (filters_at s (along.earlier ++ e ∷ []) session)) (sym at)
            (subst (Agrees (get_or chests session []))
            (sym (filters_elsewhere (unwrap_or (slice_get s.chests session) []) along.earlier e session other.0))
            (along.agrees session below))
      ];
      slots = λ session below. elim (eqb_tells w.session session) [
        | inl here ↦
            let at : get_or (slice_set chests w.session chest) w.session [] ≡ chest = get_or-set_same chests w.session chest [] inside in
            let P : ℕ → Type 0 =
            λ k. SameSlots (unwrap_or (slice_get first k) []) (get_or (slice_set chests w.session chest) k []) in
            subst P here.1 (subst (SameSlots (unwrap_or (slice_get first w.session) [])) (sym at) (same ∙ along.slots w.session eight))
        | inr other ↦
            let at : get_or (slice_set chests w.session chest) session [] ≡ get_or chests session [] =
            get_or-set_other chests w.session session chest [] (λ p. other.1 (sym p)) in
            subst (SameSlots (unwrap_or (slice_get first session) [])) (sym at) (along.slots session below)
      ];
      eight = omega (arith, long, old_long);
      wanted = subst (λ (t : List Bool). AreWanted (calls_in s.scripts) o.replies t o.order) (sym kept) along.wanted;
    }

-- what the next word asks for
module _ (s : Start) (o : Output) (first : List (List (Option FilterState))) (place : ℕ) (d : OrderWord) (walk : Walk)
    (chests : List (List (Option FilterState))) (along : IsAlong s o first place walk chests) (merge : IsMerge s.scripts o.order)
    (lt : place < length o.order) where
  pub along_eight : (get_or o.order place d).session < 8
  along_eight = all_get (λ (x : OrderWord). x.session < 8) o.order place d merge.sessions lt

  -- its version is wanted
  pub along_wants : WantsIfAny walk.versions.wanted.items
      (version_named (call_at s.scripts (get_or o.order place d)) (printed_at o.replies (get_or o.order place d)).reply)
  along_wants =
      let w = get_or o.order place d in
      let all = all_get (WantsOfWord (calls_in s.scripts) o.replies walk.versions.wanted.items) o.order place d along.wanted lt in
      subst (λ (l : Line). WantsIfAny walk.versions.wanted.items (version_named l (printed_at o.replies w).reply))
      (line_is s.scripts (calls_in s.scripts) w refl along_eight) all

  -- and its filters are there
  pub along_finds : FitsFilters (map length first) s.scripts → AllByRecursion IsFull first
      → FitsChest (get_or chests (get_or o.order place d).session []) (line_in (calls_in s.scripts) (get_or o.order place d))
  along_finds fits full =
      let w = get_or o.order place d in
      subst (FitsChest (get_or chests w.session [])) (sym (line_is s.scripts (calls_in s.scripts) w refl along_eight))
      (word_fits s.scripts first (get_or chests w.session []) w fits full (along.slots w.session along_eight))
