-- The loop along an order, as it goes over desks and over a list that is the order.
use Rattle.std.proofs.Common.{◌≡◌, ℕ, ◌+◌, ◌-◌, ◌<◌, ◌≤◌, ◌^◌, Bool, true, false, List, [], length, map, refl, sym, ap, ◌∙◌}
use Rattle.std.proofs.Common.{subst, arith, get_or}
use Rattle.std.specs.Prelude.{Option, slice_index, slice_set}
use Rattle.std.specs.List.{AllByRecursion}
use Rattle.std.proofs.lemmas.List.{length-map}
use Rattle.spec_document.specs.Document.{Document}
use Rattle.spec_filters.specs.declared.FilterState.{FilterState}
use Rattle.spec_history.specs.History.{Entry}
use Rattle.spec_script.specs.Fits.{FitsFilters}
use Rattle.spec_script.specs.Script.{Line}
use Rattle.spec_tables.specs.Agrees.{Agrees, SameSlots}
use Rattle.spec_text.specs.declared.OrderWord.{OrderWord}
use Rattle.spec_audit.specs.Output.{Output, IsMerge}
use Rattle.spec_audit.specs.Walk.{Start, call_at, printed_at, AllPass, FailsAt}
use Rattle.spec_audit.proofs.Walking.{walked_fails, walked_all}
use Rattle.xl_desk.specs.declared.desk.Desk.{Desk}
use Rattle.xl_judging.specs.Calls.{calls_in, line_in}
use Rattle.xl_judging.specs.Versions.{version_named, WantsIfAny, AreWanted}
use Rattle.xl_audit.specs.Auditing.{ArePrintable, FitsChest, IsFull, padded, start_of}
use Rattle.xl_audit.specs.Begun.{IsBegun}
use Rattle.xl_audit.specs.Walking.{HasCome, IsNextWord, IsJudged, filters_at}
use Rattle.xl_audit.specs.declared.walk.Walk.{Walk}
use Rattle.xl_audit.proofs.Along.{IsAlong, along_begin, along_more, along_counts, next_word}
use Rattle.xl_audit.proofs.Along.{along_eight, along_wants, along_finds}
use Rattle.xl_audit.proofs.Desks.{chest_of, chests_of, chest_at, chest_written, length_padded, padded_at}

-- ---- before the first word

pub begun_first : (base : Document) (scripts : List (List Line)) (o : Output) (first : List (List (Option FilterState))) (walk : Walk)
    (chests : List (List (Option FilterState))) (calls : List (List Line)) → length first ≤ 8 → AllByRecursion IsFull first
    → FitsFilters (map length first) scripts → IsMerge scripts o.order → ArePrintable o → chests ≡ padded first → HasCome base [] walk
    → calls ≡ calls_in scripts → AreWanted calls o.replies walk.versions.wanted.items o.order
    → IsBegun (start_of base scripts first) o calls walk chests
begun_first base scripts o first walk chests calls few full fits merge prints eight come listed wanted = record {
  first = first;
  few = few;
  full = full;
  fits = fits;
  filters = refl;
  eight = eight;
  merge = merge;
  prints = prints;
  listed = listed;
  come = come;
  wanted = wanted;
}

pub along_first : (s : Start) (o : Output) (calls : List (List Line)) (walk : Walk) (chests : List (List (Option FilterState)))
    (b : IsBegun s o calls walk chests) → IsAlong s o b.first 0 walk chests
along_first s o calls walk chests b =
    along_begin s o b.first walk chests b.filters b.full b.come (ap length b.eight ∙ length_padded b.first b.few)
    (λ session lt.
    ap (λ (cs : List (List (Option FilterState))). get_or cs session []) b.eight ∙ padded_at b.first (8 - length b.first) session)
    (subst (λ (cs : List (List Line)). AreWanted cs o.replies walk.versions.wanted.items o.order) b.listed b.wanted)

-- the walk has come along the order, from wherever it has begun
abbrev pub ComesAlong : (o : Output) → (calls : List (List Line)) → (first : Walk) → (begun : List (List (Option FilterState)))
    → (place : ℕ) → Walk → (chests : List (List (Option FilterState))) → Type 0
ComesAlong o calls first begun place walk chests = (s : Start) (b : IsBegun s o calls first begun) → IsAlong s o b.first place walk chests

-- ---- a word

-- what the walk says of a word, for every start and all earlier entries
abbrev pub Judges : (o : Output) → (calls : List (List Line)) → OrderWord → (old : Walk) → (before after : List (Option FilterState))
    → (passed : Bool) → (new : Walk) → Type 0
Judges o calls w old before after passed new =
    (s : Start) (earlier : List Entry) → calls ≡ calls_in s.scripts → IsNextWord s o earlier w → HasCome s.base earlier old
    → Agrees before (filters_at s earlier w.session)
    → WantsIfAny old.versions.wanted.items (version_named (call_at s.scripts w) (printed_at o.replies w).reply)
    → IsJudged s o earlier w passed new after

module _ {X : Type 0} {H : X → Type 0} (state : (x : X) × H x → FilterState) (s : Start) (o : Output) (calls : List (List Line))
    (first : Walk) (begun : List (List (Option FilterState))) (b : IsBegun s o calls first begun) (items : List OrderWord) (place : ℕ)
    (d : OrderWord) (old : Walk) (desks : List (Desk X H)) (along : IsAlong s o b.first place old (chests_of state desks))
    (order : items ≡ o.order) (lt : place < length items) where
  abbrev pub w : OrderWord
  w = get_or items place d

  inside : place < length o.order
  inside = subst (λ (ws : List OrderWord). place < length ws) order lt

  is : w ≡ get_or o.order place d
  is = ap (λ (ws : List OrderWord). get_or ws place d) order

  eight : w.session < 8
  eight =
      subst (λ (x : OrderWord). x.session < 8) (sym is)
      (along_eight s o b.first place d old (chests_of state desks) along b.merge inside)

  -- the session has a desk
  pub word_has_desk : w.session < length desks
  word_has_desk =
      let few = eight in
      let long = along.eight in
      let as_many = length-map desks (chest_of state) in
      omega (arith, few, long, as_many)

  -- the session has few calls
  pub word_counts : slice_index old.made w.session < 2 ^ 31
  word_counts = along_counts s.base along.earlier old w.session along.has eight

  -- the desk of its session
  module _ (desk : Desk X H) (at : desk ≡ get_or desks w.session desk) where
    chest_is : chest_of state desk ≡ get_or (chests_of state desks) w.session []
    chest_is = chest_at state desks w.session desk desk word_has_desk at

    -- has the filters of its call
    pub word_finds : FitsChest (chest_of state desk) (line_in calls w)
    word_finds =
        let P : OrderWord → Type 0 =
        λ x. FitsChest (get_or (chests_of state desks) x.session []) (line_in (calls_in s.scripts) x) in
        subst (λ (c : List (Option FilterState)). FitsChest c (line_in calls w)) (sym chest_is)
        (subst (λ (cs : List (List Line)). FitsChest (get_or (chests_of state desks) w.session []) (line_in cs w)) (sym b.listed)
        (subst P (sym is) (along_finds s o b.first place d old (chests_of state desks) along b.merge inside b.fits b.full)))

    module _ (after : Desk X H) (passed : Bool) (new : Walk)
        (judges : Judges o calls w old (chest_of state desk) (chest_of state after) passed new) where
      judged : (to : Bool) → passed ≡ to → IsJudged s o along.earlier (get_or o.order place d) to new (chest_of state after)
      judged to comes =
          let P : OrderWord → Type 0 =
          λ x. WantsIfAny old.versions.wanted.items (version_named (call_at s.scripts x) (printed_at o.replies x).reply) in
          let here : IsJudged s o along.earlier w passed new (chest_of state after) =
          judges s along.earlier b.listed
          (subst (IsNextWord s o along.earlier) (sym is)
          (next_word s o (map length b.first) b.fits b.merge b.prints place along.earlier d along.walked inside))
          along.has
          (subst (λ (c : List (Option FilterState)). Agrees c (filters_at s along.earlier w.session)) (sym chest_is)
          (along.agrees w.session eight))
          (subst P (sym is) (along_wants s o b.first place d old (chests_of state desks) along b.merge inside)) in
          subst (λ (x : OrderWord). IsJudged s o along.earlier x to new (chest_of state after)) is
          (subst (λ (p : Bool). IsJudged s o along.earlier w p new (chest_of state after)) comes here)

      -- the word fails
      pub word_fails : passed ≡ false → FailsAt s o [] o.order w.session w.index
      word_fails fails =
          let P : OrderWord → Type 0 = λ x. FailsAt s o [] o.order x.session x.index in
          subst P (sym is) (walked_fails s o place along.earlier d along.walked inside (judged false fails))

      -- or it passes, and the desk is written
      pub word_passes : passed ≡ true → SameSlots (chest_of state desk) (chest_of state after)
          → (passed ≡ true → new.versions.wanted.items ≡ old.versions.wanted.items)
          → IsAlong s o b.first (place + 1) new (chests_of state (slice_set desks w.session after))
      word_passes passes slots wanted =
          let S : OrderWord → Type 0 = λ x. SameSlots (get_or (chests_of state desks) x.session []) (chest_of state after) in
          let A : OrderWord → Type 0 =
          λ x. IsAlong s o b.first (place + 1) new (slice_set (chests_of state desks) x.session (chest_of state after)) in
          subst (IsAlong s o b.first (place + 1) new)
          (sym (chest_written state desks (slice_set desks w.session after) w.session after refl))
          (subst A (sym is)
          (along_more s o b.first place d old new (chests_of state desks) (chest_of state after) b.merge along inside (judged true passes)
          (subst S is (subst (λ (c : List (Option FilterState)). SameSlots c (chest_of state after)) chest_is slots)) (wanted passes)))

-- ---- behind the last word

pub words_pass : (s : Start) (o : Output) (first : List (List (Option FilterState))) (items : List OrderWord) (place : ℕ) (walk : Walk)
    (chests : List (List (Option FilterState))) → IsAlong s o first place walk chests → items ≡ o.order → length items ≤ place
    → AllPass s o [] o.order
words_pass s o first items place walk chests along order le =
    walked_all s o place along.earlier along.walked (subst (λ (ws : List OrderWord). length ws ≤ place) order le)
