-- The file after a history whose last call is a save: that of the last document, where no save failed.
use Rattle.std.proofs.Common.{◌≡◌, ℕ, ◌+◌, Bool, true, false, cond, List, [], ◌∷◌, ◌++◌, Some, None, refl, ap, sym}
use Rattle.std.proofs.Common.{◌∙◌, arith, subst}
use Rattle.std.specs.Prelude.{fold, drop, is_some, Option}
use Rattle.std.specs.List.{AllByRecursion, cons_option}
use Rattle.std.proofs.lemmas.List.Sums.{sum_by-cons}
use Rattle.spec_document.specs.Document.{Document}
use Rattle.spec_history.specs.Machine.{is_save_fault, Reply, saved, save_fault, save_memory, State, Saving, latest, initial}
use Rattle.spec_history.specs.History.{Entry, Kind, asked, starts, ends, EndsWith, MayEnd, MayBe, after_kind}
use Rattle.spec_history.specs.History.{after_entry, replay_from, replay, RunFrom, latest_of}
use Rattle.spec_history.specs.Kept.{IsLegal}
use Rattle.spec_history.proofs.Versions.{latest_of-legal}
use Rattle.spec_saves.specs.Names.{Named, version, the_old, after_end, after_kind as named_after, after_one, names}
use Rattle.spec_saves.specs.Names.{ends_by_fault, save_faults}
use Rattle.spec_merged.specs.Fills.{EndsWithSave}
use Rattle.spec_script.specs.Script.{Line, call, save, forget}
use Rattle.spec_text.specs.Text.{made_by, is_save_memory}
use Rattle.spec_text.specs.Text.{calls_along}

-- ---- the entries behind the start of the last save

-- an entry whose save did not fail
record IsWell (e : Entry) : Type 0 where
  memory : is_save_memory e.reply ≡ false
  fault : ends_by_fault e.kind e.reply ≡ false

line_is_there : (o : Option Line) (line : Line) (lines : List Line) → o ≡ Some line → cons_option o lines ≡ [] → ⊥
line_is_there None line lines is none = let bad : false ≡ true = ap is_some is in cc
line_is_there (Some x) line lines is none = let bad : x ∷ lines ≡ [] = none in cc

-- nothing can end where no save is out
nothing_more : (base : Document) (s : State) (earlier es : List Entry) → s.out ≡ None → RunFrom base s earlier es
    → calls_along es ≡ [] → es ≡ []
nothing_more base s earlier [] out run none = refl
nothing_more base s earlier (e ∷ es) out run none = go e.kind refl run.0 where
  go : (k : Kind) → e.kind ≡ k → MayBe base s earlier e k → e ∷ es ≡ []
  go (asked c tables) is may = absurd (line_is_there (made_by e.kind) (call c) (calls_along es) (ap made_by is) none)
  go starts is may = absurd (line_is_there (made_by e.kind) save (calls_along es) (ap made_by is) none)
  go ends is may = absurd (subst (λ (o : Option Saving). MayEnd o e.session e.index e.reply) out may)

well_end : (v : ℕ) (ns : List Named) (r : Reply) → EndsWith v r → is_save_memory r ≡ false → is_save_fault r ≡ false
    → after_end ns r ≡ version v ∷ []
well_end v ns (saved w) same memory fault = ap (λ (n : ℕ). version n ∷ []) same
well_end v ns (save_fault w) same memory fault = let bad : true ≡ false = fault in cc
well_end v ns (save_memory w) same memory fault = let bad : true ≡ false = memory in cc
well_end v ns r same memory fault = absurd same

-- the end of the save that is out is the last entry
ends_well : (base : Document) (s : State) (earlier es : List Entry) (ns : List Named) (o : Saving) → s.out ≡ Some o
    → o.version ≡ latest s → RunFrom base s earlier es → (replay_from base s es).out ≡ None
    → calls_along es ≡ [] → AllByRecursion IsWell es → fold after_one ns es ≡ version (latest (replay_from base s es)) ∷ []
ends_well base s earlier [] ns o out at run last none well = let bad : false ≡ true = ap is_some (sym last ∙ out) in cc
ends_well base s earlier (e ∷ es) ns o out at run last none well = go e.kind refl run.0 where
  go : (k : Kind) → e.kind ≡ k → MayBe base s earlier e k
      → fold after_one ns (e ∷ es) ≡ version (latest (replay_from base s (e ∷ es))) ∷ []
  go (asked c tables) is may = absurd (line_is_there (made_by e.kind) (call c) (calls_along es) (ap made_by is) none)
  go starts is may = absurd (line_is_there (made_by e.kind) save (calls_along es) (ap made_by is) none)
  go ends is may =
      let with : MayEnd (Some o) e.session e.index e.reply =
      subst (λ (x : Option Saving). MayEnd x e.session e.index e.reply) out may in
      let fault : is_save_fault e.reply ≡ false = subst (λ (k : Kind). ends_by_fault k e.reply ≡ false) is well.0.fault in
      let state : after_entry base s e ≡ record s { out = None } = ap (after_kind base s e) is in
      let rest : calls_along es ≡ [] = subst (λ (k : Kind). cons_option (made_by k) (calls_along es) ≡ []) is none in
      let over : es ≡ [] =
      nothing_more base (after_entry base s e) (earlier ++ e ∷ []) es (ap (λ (t : State). t.out) state) run.1 rest in
      let first : after_one ns e ≡ version (latest s) ∷ [] =
      ap (λ (k : Kind). named_after ns k e.reply) is ∙ well_end o.version ns e.reply with.2 well.0.memory fault
      ∙ ap (λ (n : ℕ). version n ∷ []) at in
      subst (λ (more : List Entry). fold after_one ns (e ∷ more) ≡ version (latest (replay_from base s (e ∷ more))) ∷ []) (sym over)
      (first ∙ ap (λ (t : State). version (latest t) ∷ []) (sym state))

-- ---- up to it

tail_of : (x y : Line) (xs ys : List Line) → x ∷ xs ≡ y ∷ ys → xs ≡ ys
tail_of x y xs ys same = ap (λ (ls : List Line). drop 1 ls) same

abbrev is_save : Line → Bool
is_save (call c) = false
is_save save = true
is_save (forget slot) = false

abbrev first_of : List Line → Line
first_of [] = save
first_of (x ∷ xs) = x

module _ (base : Document) where
  saved_last : (s : State) (earlier es : List Entry) (ns : List Named) → RunFrom base s earlier es
      → (replay_from base s es).out ≡ None → EndsWithSave (calls_along es) → AllByRecursion IsWell es
      → fold after_one ns es ≡ version (latest (replay_from base s es)) ∷ []
  saved_last s earlier [] ns run last ([], is) well = let bad : [] ≡ save ∷ [] = is in cc
  saved_last s earlier [] ns run last (x ∷ front, is) well = let bad : [] ≡ x ∷ (front ++ save ∷ []) = is in cc
  saved_last s earlier (e ∷ es) ns run last (front, is) well =
      by_kind e.kind refl run.0 front is
      (λ f same. saved_last (after_entry base s e) (earlier ++ e ∷ []) es (after_one ns e) run.1 last (f, same) well.1) where
        by_kind : (k : Kind) → e.kind ≡ k → MayBe base s earlier e k → (f : List Line)
            → cons_option (made_by e.kind) (calls_along es) ≡ f ++ save ∷ []
            → ((f : List Line) → calls_along es ≡ f ++ save ∷ []
            → fold after_one (after_one ns e) es ≡ version (latest (replay_from base (after_entry base s e) es)) ∷ [])
            → fold after_one ns (e ∷ es) ≡ version (latest (replay_from base s (e ∷ es))) ∷ []
        by_kind (asked c tables) kind may [] same rest =
            let here : call c ∷ calls_along es ≡ save ∷ [] =
            ap (λ (k : Kind). cons_option (made_by k) (calls_along es)) (sym kind) ∙ same in
            let bad : false ≡ true = ap (λ (ls : List Line). is_save (first_of ls)) here in cc
        by_kind (asked c tables) kind may (x ∷ f) same rest =
            rest f (tail_of (call c) x (calls_along es) (f ++ save ∷ [])
            (ap (λ (k : Kind). cons_option (made_by k) (calls_along es)) (sym kind) ∙ same))
        by_kind starts kind may [] same rest =
            let none : calls_along es ≡ [] =
            tail_of save save (calls_along es) []
            (ap (λ (k : Kind). cons_option (made_by k) (calls_along es)) (sym kind) ∙ same) in
            let o : Saving = record { session = e.session; index = e.index; version = latest s } in
            let state : after_entry base s e ≡ record s { out = Some o } = ap (after_kind base s e) kind in
            ends_well base (after_entry base s e) (earlier ++ e ∷ []) es (after_one ns e) o (ap (λ (t : State). t.out) state)
            (ap latest (sym state)) run.1 last none well.1
        by_kind starts kind may (x ∷ f) same rest =
            rest f (tail_of save x (calls_along es) (f ++ save ∷ [])
            (ap (λ (k : Kind). cons_option (made_by k) (calls_along es)) (sym kind) ∙ same))
        by_kind ends kind may f same rest = rest f (ap (λ (k : Kind). cons_option (made_by k) (calls_along es)) (sym kind) ∙ same)

-- ---- a whole history

each_is_well : (es : List Entry) → save_faults es ≡ 0 → AllByRecursion (λ e. is_save_memory e.reply ≡ false) es
    → AllByRecursion IsWell es
each_is_well [] none printable = tt
each_is_well (e ∷ es) none printable =
    go (ends_by_fault e.kind e.reply) refl (λ rest. each_is_well es rest printable.1) where
      go : (b : Bool) → ends_by_fault e.kind e.reply ≡ b → (save_faults es ≡ 0 → AllByRecursion IsWell es)
          → AllByRecursion IsWell (e ∷ es)
      go true is rest =
          let here : save_faults (e ∷ es) ≡ 1 + save_faults es =
          sum_by-cons (λ (x : Entry). cond (ends_by_fault x.kind x.reply) 1 0) e es
          ∙ ap (λ (b : Bool). cond b 1 0 + save_faults es) is in
          absurd (omega (arith, here, none))
      go false is rest =
          let here : save_faults (e ∷ es) ≡ 0 + save_faults es =
          sum_by-cons (λ (x : Entry). cond (ends_by_fault x.kind x.reply) 1 0) e es
          ∙ ap (λ (b : Bool). cond b 1 0 + save_faults es) is in
          (record { memory = printable.0; fault = is }, rest (omega (arith, here, none)))

-- where the last of all calls is a save and no save failed, the file has the last version
pub last_is_saved : (base : Document) (es : List Entry) → IsLegal base es → (replay base es).out ≡ None
    → AllByRecursion (λ e. is_save_memory e.reply ≡ false) es
    → EndsWithSave (calls_along es) → save_faults es ≡ 0 → names es ≡ version (latest_of es) ∷ []
last_is_saved base es legal ended printable last none =
    saved_last base (initial base) [] es (the_old ∷ []) legal.run ended last (each_is_well es none printable)
    ∙ ap (λ (v : ℕ). version v ∷ []) (sym (latest_of-legal base es legal))
