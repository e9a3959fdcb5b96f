-- What a save does to a shelf that was handed out is what the shelf has to keep that comes back.
use Rattle.std.proofs.Common.{◌≡◌, inl, inr, ◌⊎◌, ℕ, ◌+◌, ◌≤◌, Bool, cond, length, List, [], ◌∷◌, ◌++◌}
use Rattle.std.proofs.Common.{Some, None, ap, sym, ◌∙◌, arith, subst}
use Rattle.std.specs.Prelude.{Option, IfSome, Contains, fold}
use Rattle.std.proofs.lemmas.List.Sums.{fold-append}
use Rattle.std.specs.List.{AllByRecursion}
use Rattle.spec_document.specs.Document.{Document}
use Rattle.spec_layout.specs.Layout.{Written}
use Rattle.spec_history.specs.Machine.{Reply, saved, save_fault, save_memory, State, Saving, initial, latest}
use Rattle.spec_history.specs.History.{Entry, Kind, asked, starts, ends, is_changed, latest_of, after_kind}
use Rattle.spec_history.specs.History.{after_entry, replay_from, replay, RunFrom, document_of, EndsWith, MayEnd, MayBe}
use Rattle.spec_history.specs.Kept.{IsLegal}
use Rattle.spec_history.proofs.Growing.{replay-snoc, out-answer}
use Rattle.spec_history.proofs.Versions.{IsSound, sound-initial, goes-step, latest_of-legal}
use Rattle.spec_world.specs.declared.SaveEnd.TheVariants.{Done, Fault, Memory}
use Rattle.xl_ports.specs.Shelf.{Content, file}
use Rattle.xl_ports.specs.Disk.{Disk, MayLeave, MightHaveLeft, LeavesJust}
use Rattle.xl_save.specs.Save.{SavesOnly, HasSaved}
use Rattle.xl_save.proofs.Others.{others_stay}
use Rattle.xl_ports.proofs.Moments.{others_still}
use Rattle.spec_saves.specs.Names.{Named, the_old, version, names, files, after_one, after_end}
use Rattle.spec_saves.specs.Names.{after_kind as after_named, version_out, with_out}
use Rattle.spec_saves.specs.Names.{out_version}
use Rattle.spec_saves.specs.Contents.{IsVersion, IsNamed, IsIn, IsSaved}
use Rattle.spec_saves.specs.Shelf.{DiskIsRight, IsSettled}
use Rattle.spec_saves.specs.Returns.{DiskReturns, MayBeSaved}
use Rattle.spec_saves.proofs.Staying.{stays_version, stays_saved}

-- ---- versions that are named are there

-- the old file, or a version up to the last one
abbrev pub IsThere : (last : ℕ) → Named → Type 0
IsThere last the_old = Unit {0}
IsThere last (version v) = v ≤ last

there_later : (old new : ℕ) (n : Named) → old ≤ new → IsThere old n → IsThere new n
there_later old new the_old le h = tt
there_later old new (version v) le h = omega arith

all_later : (old new : ℕ) (ns : List Named) → old ≤ new → AllByRecursion (IsThere old) ns → AllByRecursion (IsThere new) ns
all_later old new [] le h = tt
all_later old new (n ∷ ns) le h = (there_later old new n le h.0, all_later old new ns le h.1)

pub one_more : (last v : ℕ) (ns : List Named) → AllByRecursion (IsThere last) ns → v ≤ last
    → AllByRecursion (IsThere last) (ns ++ version v ∷ [])
one_more last v [] h le = (le, tt)
one_more last v (n ∷ ns) h le = (h.0, one_more last v ns h.1 le)

-- what is named, and the version of the save that is out
pub record AreThere (s : State) (ns : List Named) : Type 0 where
  pub named : AllByRecursion (IsThere (latest s)) ns
  pub going : IfSome s.out (λ o. o.version ≤ latest s)

out_later : (out : Option Saving) (old new : ℕ) → old ≤ new → IfSome out (λ o. o.version ≤ old) → IfSome out (λ o. o.version ≤ new)
out_later None old new le h = tt
out_later (Some o) old new le h = omega arith

end_there : (last v : ℕ) (ns : List Named) (r : Reply) → AllByRecursion (IsThere last) ns → v ≤ last → EndsWith v r
    → AllByRecursion (IsThere last) (after_end ns r)
end_there last v ns (saved w) h le is = (omega (arith, is, le), tt)
end_there last v ns (save_fault w) h le is = one_more last w ns h (omega (arith, is, le))
end_there last v ns (save_memory w) h le is = h
end_there last v ns r h le is = absurd is

ended_there : (out : Option Saving) (last session index : ℕ) (ns : List Named) (r : Reply) → AllByRecursion (IsThere last) ns
    → IfSome out (λ o. o.version ≤ last)
    → MayEnd out session index r → AllByRecursion (IsThere last) (after_end ns r)
ended_there None last session index ns r h going may = absurd may
ended_there (Some o) last session index ns r h going may = end_there last o.version ns r h going may.2

kind_there : (base : Document) (s : State) (earlier : List Entry) (e : Entry) (k : Kind) (ns : List Named)
    → latest s ≤ latest (after_kind base s e k) → AreThere s ns → MayBe base s earlier e k
    → AreThere (after_kind base s e k) (after_named ns k e.reply)
kind_there base s earlier e (asked c tables) ns le there may = record {
  named = all_later (latest s) (latest (after_kind base s e (asked c tables))) ns le there.named;
  going = subst (λ (o : Option Saving). IfSome o (λ x. x.version ≤ latest (after_kind base s e (asked c tables))))
      (sym (out-answer base s c tables))
      (out_later s.out (latest s) (latest (after_kind base s e (asked c tables))) le there.going);
}
kind_there base s earlier e starts ns le there may = record { named = there.named; going = omega arith }
kind_there base s earlier e ends ns le there may =
    record { named = ended_there s.out (latest s) e.session e.index ns e.reply there.named there.going may; going = tt }

grown : (s t : State) (b : Bool) → length t.documents ≡ length s.documents + cond b 1 0 → latest s ≤ latest t
grown s t b more = omega arith

there_from : (base : Document) (s : State) (earlier es : List Entry) (ns : List Named) → IsSound s → AreThere s ns
    → RunFrom base s earlier es
    → AreThere (replay_from base s es) (fold after_one ns es)
there_from base s earlier [] ns sound there run = there
there_from base s earlier (e ∷ es) ns sound there run =
    let goes = goes-step base s earlier e sound run.0 in
    there_from base (after_entry base s e) (earlier ++ e ∷ []) es (after_one ns e) goes.sound
    (kind_there base s earlier e e.kind ns (grown s (after_entry base s e) (is_changed e.reply) goes.more) there run.0) run.1

pub names_there : (base : Document) (es : List Entry) → IsLegal base es → AreThere (replay base es) (names es)
names_there base es legal =
    there_from base (initial base) [] es (the_old ∷ []) (sound-initial base) (record { named = (tt, tt); going = tt }) legal.run

-- ---- contents stay what they are as entries come

named_stays : (base : Document) (es more : List Entry) (opened : Disk) (name : List ℕ) (c : Content) (n : Named)
    → IsThere (latest (replay base es)) n
    → IsNamed base es opened name c n → IsNamed base (es ++ more) opened name c n
named_stays base es more opened name c the_old there is = is
named_stays base es more opened name c (version v) there is = stays_version base es more v there c is

pub in_stays : (base : Document) (es more : List Entry) (opened : Disk) (name : List ℕ) (c : Content) (ns : List Named)
    → AllByRecursion (IsThere (latest (replay base es))) ns
    → IsIn base es opened name c ns → IsIn base (es ++ more) opened name c ns
in_stays base es more opened name c [] there is = is
in_stays base es more opened name c (n ∷ ns) there (inl is) = inl (named_stays base es more opened name c n there.0 is)
in_stays base es more opened name c (n ∷ ns) there (inr is) = inr (in_stays base es more opened name c ns there.1 is)

in_front : (base : Document) (es : List Entry) (opened : Disk) (name : List ℕ) (c : Content) (ns more : List Named)
    → IsIn base es opened name c ns → IsIn base es opened name c (ns ++ more)
in_front base es opened name c [] more is = absurd is
in_front base es opened name c (n ∷ ns) more (inl is) = inl is
in_front base es opened name c (n ∷ ns) more (inr is) = inr (in_front base es opened name c ns more is)

in_last : (base : Document) (es : List Entry) (opened : Disk) (name : List ℕ) (c : Content) (ns : List Named) (n : Named)
    → IsNamed base es opened name c n → IsIn base es opened name c (ns ++ n ∷ [])
in_last base es opened name c [] n is = inl is
in_last base es opened name c (m ∷ ns) n is = inr (in_last base es opened name c ns n is)

-- ---- the shelf comes back from a save

-- the start of a save names the version that stands
abbrev pub start_entry : List Entry → (session index : ℕ) → Entry
start_entry es session index = record { session = session; index = index; kind = starts; reply = saved (latest_of es) }

-- what the start of a save makes of the names
pub record IsStarted (base : Document) (es : List Entry) (e : Entry) (v : ℕ) : Type 0 where
  pub same : names (es ++ e ∷ []) ≡ names es
  pub files_are : files base (es ++ e ∷ []) ≡ names es ++ version v ∷ []
  pub out : out_version base (es ++ e ∷ []) ≡ v
  pub low : v ≤ latest (replay base es)

pub start_is : (base : Document) (es : List Entry) (session index : ℕ) → IsLegal base es
    → IsStarted base es (start_entry es session index) (latest_of es)
start_is base es session index legal =
    let e = start_entry es session index in
    let now : latest (replay base es) ≡ latest_of es = sym (latest_of-legal base es legal) in
    let same : names (es ++ e ∷ []) ≡ names es = fold-append after_one (the_old ∷ []) es (e ∷ []) in
    let out : (replay base (es ++ e ∷ [])).out ≡ Some (record { session = session; index = index; version = latest_of es }) =
    ap (λ (s : State). s.out) (replay-snoc base es e)
    ∙ ap (λ (v : ℕ). Some (record { session = session; index = index; version = v })) now in
    record {
      same = same;
      files_are = ap (with_out (names (es ++ e ∷ []))) out ∙ ap (λ (ns : List Named). ns ++ version (latest_of es) ∷ []) same;
      out = ap version_out out;
      low = omega (arith, now);
    }

-- a file of the version that is saved
module _ {base : Document} {es : List Entry} {e : Entry} {v : ℕ} (legal : IsLegal base es) (start : IsStarted base es e v)
    (opened : Disk) (name : List ℕ) where
  file_in : (bytes : List ℕ) → Written bytes (document_of base es v)
      → IsIn base (es ++ e ∷ []) opened name (file bytes) (files base (es ++ e ∷ []))
  file_in bytes wrote =
      subst (IsIn base (es ++ e ∷ []) opened name (file bytes)) (sym start.files_are)
      (in_last base (es ++ e ∷ []) opened name (file bytes) (names es) (version v)
      (stays_version base es (e ∷ []) v start.low (file bytes) wrote))

  old_in : (c : Content) → IsIn base es opened name c (names es)
      → IsIn base (es ++ e ∷ []) opened name c (files base (es ++ e ∷ []))
  old_in c is =
      subst (IsIn base (es ++ e ∷ []) opened name c) (sym start.files_are)
      (in_front base (es ++ e ∷ []) opened name c (names es) (version v ∷ [])
      (in_stays base es (e ∷ []) opened name c (names es) (names_there base es legal).named is))

  either_in : (bytes : List ℕ) → Written bytes (document_of base es v) → {handed : Disk} → DiskIsRight name base es opened handed
      → (c : Content) → MayLeave handed name c ⊎ (c ≡ file bytes)
      → IsIn base (es ++ e ∷ []) opened name c (files base (es ++ e ∷ []))
  either_in bytes wrote right c (inl left) = old_in c (right.leaves c left)
  either_in bytes wrote right c (inr is) =
      subst (λ (x : Content). IsIn base (es ++ e ∷ []) opened name x (files base (es ++ e ∷ []))) (sym is) (file_in bytes wrote)

  left_stays : (c : Content) (since : ℕ) → MightHaveLeft opened name since c ⊎ IsSaved base es c
      → MightHaveLeft opened name since c ⊎ IsSaved base (es ++ e ∷ []) c
  left_stays c since (inl was) = inl was
  left_stays c since (inr is) = inr (stays_saved base es (e ∷ []) legal.run c is)

  -- the version that is out
  out_file : (bytes : List ℕ) → Written bytes (document_of base es v)
      → IsVersion base (es ++ e ∷ []) (out_version base (es ++ e ∷ [])) (file bytes)
  out_file bytes wrote =
      subst (λ (n : ℕ). IsVersion base (es ++ e ∷ []) n (file bytes)) (sym start.out)
      (stays_version base es (e ∷ []) v start.low (file bytes) wrote)

  either_left : (bytes : List ℕ) → Written bytes (document_of base es v) → {handed : Disk} → DiskIsRight name base es opened handed
      → (since : ℕ) (c : Content) → since ≤ opened.moment → MightHaveLeft handed name since c ⊎ (c ≡ file bytes)
      → MightHaveLeft opened name since c ⊎ MayBeSaved Fault base (es ++ e ∷ []) c
  either_left bytes wrote right since c le (inl was) = elim (left_stays c since (right.left since c le was)) [
    | inl left ↦ inl left
    | inr is ↦ inr (inl is)
  ]
  either_left bytes wrote right since c le (inr is) =
      inr (inr (subst (IsVersion base (es ++ e ∷ []) (out_version base (es ++ e ∷ []))) (sym is) (out_file bytes wrote)))

  -- a save that failed
  pub failed_returns : (bytes : List ℕ) → Written bytes (document_of base es v) → {handed now : Disk}
      → DiskIsRight name base es opened handed
      → SavesOnly name bytes handed now → DiskReturns name base (es ++ e ∷ []) Fault opened handed now
  failed_returns bytes wrote right only = record {
    later = only.later;
    within = λ c was. either_in bytes wrote right c (only.within c was);
    left =
        λ since c le was. either_left bytes wrote right since c le (only.each since c (let later = right.later in omega arith) was);
    ends = λ c may. either_in bytes wrote right c (only.now c may);
    elsewhere = others_stay name bytes _ _ only;
  }

  -- a save that is done
  pub done_returns : (bytes : List ℕ) → Written bytes (document_of base es v) → {handed now : Disk}
      → DiskIsRight name base es opened handed
      → SavesOnly name bytes handed now → HasSaved name bytes now → DiskReturns name base (es ++ e ∷ []) Done opened handed now
  done_returns bytes wrote {now = now} right only has =
      let wrong = failed_returns bytes wrote right only in
      record {
        later = wrong.later;
        within = wrong.within;
        left = wrong.left;
        ends = (
          subst (IsVersion base (es ++ e ∷ []) (out_version base (es ++ e ∷ []))) (sym has.read)
              (out_file bytes wrote),
          subst (LeavesJust now name) (sym has.read) has.just,
        );
        elsewhere = wrong.elsewhere;
      }

  -- a save for which memory ran out did not touch the shelf
  pub untouched_returns : {handed : Disk} → DiskIsRight name base es opened handed
      → DiskReturns name base (es ++ e ∷ []) Memory opened handed handed
  untouched_returns {handed = handed} right =
      let named : (c : Content) → MayLeave handed name c → IsIn base (es ++ e ∷ []) opened name c (names es) =
      λ c may. in_stays base es (e ∷ []) opened name c (names es) (names_there base es legal).named (right.leaves c may) in
      record {
        later = omega arith;
        within = λ c was. old_in c (right.leaves c (now_left handed name c was));
        left = λ since c le was. left_stays c since (right.left since c le was);
        ends = (
          subst (λ (ns : List Named). (c : Content) → MayLeave handed name c
              → IsIn base (es ++ e ∷ []) opened name c ns) (sym start.same) named,
          subst (λ (ns : List Named). IsSettled ns name opened handed) (sym start.same) right.settled,
        );
        elsewhere = others_still handed name;
      } where
        now_left : (d : Disk) (n : List ℕ) (c : Content) → MightHaveLeft d n d.moment c → MayLeave d n c
        now_left d n c (inl may) = may
        now_left d n c (inr gone) = absurd (let none = subst (λ (cs : List Content). Contains cs c) (d.none_gone n) gone in
            let below = none.1 in omega (arith, below))
