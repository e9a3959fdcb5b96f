-- A value that a command took passed the parser of its argument.
use Rattle.std.proofs.Common.{◌≡◌, ◌<◌, ◌≤◌, ℕ, zero, suc, List, [], ◌∷◌, Bool, true, false, map}
use Rattle.std.proofs.Common.{length, Option, Some, None, option_map, refl, sym, ap, ◌∙◌, subst, arith, inl, inr, ◌⊎◌}
use Rattle.std.specs.Prelude.{slice_get, unwrap_or}
use Rattle.std.specs.List.{All, slice_index_or}
use Rattle.std.specs.Str.{bytes_eq}
use Rattle.std.specs.Borrow.{Bor}
use Rattle.std.proofs.lemmas.Slice.Eq.{bytes_eq-Decides}
use Rattle.std.proofs.lemmas.List.Elements.{All-get_or}
use Rattle.clap.specs.Facts.{args_of, groups_of, Entry, EntryPasses, PassesArg, parser_of, parser_of_value}
use Rattle.clap.specs.Built.{IsParsedFrom, IsAuto, SameRules}
use Rattle.clap.specs.Matches.{matched_of, first_value, found_of}
use Rattle.clap.specs.Values.{Accepts}
use Rattle.clap.specs.Simple.{App, app_of}
use Rattle.clap.specs.Walk.{Row, Rule, Text, first_of, rows_of, rule_of}
use Rattle.clap.specs.declared.builder.arg.Arg.{Arg}
use Rattle.clap.specs.declared.builder.command.Command.{Command}
use Rattle.clap.specs.declared.builder.command.Command.TheViews.{out-Command}
use Rattle.clap.specs.declared.builder.value_parser.ValueParser.{ValueParser}
use Rattle.clap.specs.declared.parser.matches.ArgMatches.{ArgMatches}
use Rattle.clap.specs.declared.parser.matches.MatchedArg.{MatchedArg}
use Rattle.clap.proofs.CallerLemmas.{entry_by_id, same_rules_by_id}
use Rattle.clap.proofs.SimpleLemmas.{plain_fields, simple_groups}
use Rattle.clap.proofs.WalkLemmas.{first_value-rows}
use Rattle.clap.specs.declared.builder.value_parser.ValueParser.TheVariants as vp
use Rattle.clap.specs.Values.{IsSignedIn}
use Rattle.std.specs.Prelude.{codes, pos, nat_abs, ◌^◌, ◌-◌}
use Rattle.std.specs.Str.Parse.{signed_digits_value}
use Rattle.std.proofs.lemmas.Int.{ints}
use Rattle.std.specs.List.{list_all}
use Rattle.spec_command.specs.Grammar.{edit_app, make_app, number_rule, number_of, view_app}

accepts_of : (a y : Arg) (q : ValueParser) (t : List ℕ) → SameRules a y → a.value_parser ≡ Some q
    → Accepts y.ignore_case (parser_of y) t → Accepts a.ignore_case q t
accepts_of a y q t s parser read =
    let is_q : parser_of y ≡ q = ap parser_of_value (s.parser q parser) in
    let as_q : Accepts y.ignore_case q t = subst (λ (w : ValueParser). Accepts y.ignore_case w t) is_q read in
    subst (λ (b : Bool). Accepts b q t) s.ignore_case as_q

-- the first value passes what each one does
first_passes : (P : List ℕ → Type 0) (vs : List (Bor (List ℕ))) (t : List ℕ) → All (λ v. P v.now) vs
    → option_map (λ s. s.now) (slice_get vs 0) ≡ Some t → P t
first_passes P [] t all is = cc
first_passes P (v ∷ vs) t all is =
    let same : v.now ≡ t = ap (λ (o : Option (List ℕ)). unwrap_or o v.now) is in
    subst P same (All-get_or (λ v. P v.now) (v ∷ vs) 0 v (omega arith) all)

module _ (old : Command) (m : ArgMatches) (p : IsParsedFrom old m) (k : ℕ) (d : Arg) (lt : k < length (args_of old))
    (unique : (j : ℕ) (e : Arg) → j < length (args_of old)
    → bytes_eq (slice_index_or (args_of old) j e).id.now (slice_index_or (args_of old) k d).id.now ≡ true → j ≡ k)
    (named : (slice_index_or (args_of old) k d).id.now ≡ [] → ⊥)
    (own : IsAuto (slice_index_or (args_of old) k d) → ⊥)
    (q : ValueParser) (parser : (slice_index_or (args_of old) k d).value_parser ≡ Some q)
    (globals : (out-Command old).has_globals ≡ false) (no_groups : groups_of p.built ≡ []) where
  passes : (t : List ℕ) → PassesArg p.built (slice_index_or (args_of old) k d).id.now t
      → Accepts (slice_index_or (args_of old) k d).ignore_case q t
  passes t pass =
      accepts_of _ pass.1 q t (same_rules_by_id old m p k d lt unique own pass.0 pass.1 pass.2 pass.3 pass.4.0) parser pass.4.1

  entry_passes : (x : MatchedArg) (e : Entry) (t : List ℕ) → e.1 ≡ x → e.0.now ≡ (slice_index_or (args_of old) k d).id.now
      → EntryPasses p.built e
      → option_map (λ s. s.now) (slice_get x.vals.items 0) ≡ Some t → Accepts (slice_index_or (args_of old) k d).ignore_case q t
  entry_passes x e t same_x key_id pass first =
      let id = (slice_index_or (args_of old) k d).id.now in
      let no_group : e.1.is_group ≡ true → ⊥ = λ g. elim (pass.3 g) [
        | inl empty ↦ named (sym key_id ∙ empty)
        | inr lots ↦
            let bad : 0 < 0 = rw no_groups at lots in
            absurd (omega arith)
      ] in
      let all : All (λ v. PassesArg p.built id v.now) x.vals.items = elim pass.0 [
        | inl g ↦ absurd (no_group g)
        | inr vals ↦ subst (λ (w : List ℕ). All (λ v. PassesArg p.built w v.now) x.vals.items) key_id (rw same_x at vals)
      ] in
      passes t (first_passes (PassesArg p.built id) x.vals.items t all first)

  -- the value of an argument of the caller's passed its parser
  pub value_passes : (t : List ℕ) → first_value (found_of m) (slice_index_or (args_of old) k d).id.now ≡ Some t
      → Accepts (slice_index_or (args_of old) k d).ignore_case q t
  value_passes t has = go (matched_of (found_of m) (slice_index_or (args_of old) k d).id.now) refl
    where
      id : List ℕ
      id = (slice_index_or (args_of old) k d).id.now

      go : (o : Option MatchedArg) → matched_of (found_of m) (slice_index_or (args_of old) k d).id.now ≡ o
          → Accepts (slice_index_or (args_of old) k d).ignore_case q t
      go None e =
          let bad : None ≡ Some t = rw e at has in
          cc
      go (Some x) e =
          let first : option_map (λ s. s.now) (slice_get x.vals.items 0) ≡ Some t = rw e at has in
          let values = (p.parsed (p.from.globals ∙ globals)).values in
          let found = entry_by_id (EntryPasses p.built) (found_of m).entries.items
          (slice_index_or (args_of old) k d).id.now x values e in
          entry_passes x found.0 t found.1
          ((bytes_eq-Decides found.0.0.now (slice_index_or (args_of old) k d).id.now).0 found.2) found.3 first

-- ---- an argument by its place in the list of rules

one_of : (xs : List Arg) → 0 < length xs → Arg
one_of [] some = absurd (omega (arith, some))
one_of (x ∷ xs) some = x

rule_at : (xs : List Arg) (j : ℕ) (d : Arg) → slice_index_or (map rule_of xs) j (rule_of d) ≡ rule_of (slice_index_or xs j d)
rule_at [] j d = refl
rule_at (x ∷ xs) zero d = refl
rule_at (x ∷ xs) (suc j) d = rule_at xs j d

rule_count : (xs : List Arg) → length (map rule_of xs) ≡ length xs
rule_count [] = refl
rule_count (x ∷ xs) = ap suc (rule_count xs)

-- a plain command whose arguments are simple, with a number at this place, whose name no other argument has
pub record HasNumber (app : App) (k : ℕ) (name : Text) (least most : ℕ) (required : Bool) : Type 0 where
  pub plain : app.top.is_plain ≡ true
  pub simple : list_all (λ r. r.is_simple) app.top.rules ≡ true
  pub within : k < length app.top.rules
  pub rule : (r : Rule) → slice_index_or app.top.rules k r ≡ number_rule name least most required
  pub unique : (j : ℕ) (r : Rule) → j < length app.top.rules → bytes_eq (slice_index_or app.top.rules j r).id name ≡ true → j ≡ k
  pub named : name ≡ [] → ⊥
  pub own : (name ≡ codes "help") ⊎ (name ≡ codes "version") → ⊥

-- such a number lies between the least and the greatest that the option takes
pub number_is_taken : (old : Command) (m : ArgMatches) → IsParsedFrom old m → (app : App) (k : ℕ) (name : Text) (least most : ℕ)
    (required : Bool) → HasNumber app k name least most required → app_of old ≡ app
    → (t : List ℕ) → first_of name (rows_of (found_of m)) ≡ Some t → IsSignedIn (pos least) (pos most) t
number_is_taken old m p app k name least most required h is t has =
    let fields = plain_fields old (ap (λ (a : App). a.top.is_plain) is ∙ h.plain) in
    let names = simple_groups old (ap (λ (a : App). list_all (λ r. r.is_simple) a.top.rules) is ∙ h.simple) in
    value_passes old m p k d within unique (λ e. h.named (sym id ∙ e))
    (λ auto. h.own (elim auto [ inl e ↦ inl (sym id ∙ e) | inr e ↦ inr (sym id ∙ e) ]))
    (vp.Signed (pos least) (pos most)) (ap (λ (r : Rule). r.parser) rule)
    fields.globals ((p.from.same_groups names).1 ∙ fields.groups) t
    (ap (first_value (found_of m)) id ∙ (first_value-rows (found_of m) name ∙ has))
  where
    rules : map rule_of (args_of old) ≡ app.top.rules
    rules = ap (λ (a : App). a.top.rules) is

    count : length (args_of old) ≡ length app.top.rules
    count = sym (rule_count (args_of old)) ∙ ap length rules

    within : k < length (args_of old)
    within = subst (λ n. k < n) (sym count) h.within

    d : Arg
    d = one_of (args_of old) (let few = within in omega (arith, few))

    at : (j : ℕ) (e : Arg) → rule_of (slice_index_or (args_of old) j e) ≡ slice_index_or app.top.rules j (rule_of e)
    at j e = sym (rule_at (args_of old) j e) ∙ ap (λ (rs : List Rule). slice_index_or rs j (rule_of e)) rules

    rule : rule_of (slice_index_or (args_of old) k d) ≡ number_rule name least most required
    rule = at k d ∙ h.rule (rule_of d)

    id : (slice_index_or (args_of old) k d).id.now ≡ name
    id = ap (λ (r : Rule). r.id) rule

    unique : (j : ℕ) (e : Arg) → j < length (args_of old)
        → bytes_eq (slice_index_or (args_of old) j e).id.now (slice_index_or (args_of old) k d).id.now ≡ true → j ≡ k
    unique j e below same =
        let its : (slice_index_or (args_of old) j e).id.now ≡ (slice_index_or app.top.rules j (rule_of e)).id =
        ap (λ (r : Rule). r.id) (at j e) in
        let both : bytes_eq (slice_index_or app.top.rules j (rule_of e)).id name ≡ true =
        (λ i. bytes_eq (sym its i) (sym id i)) ∙ same in
        h.unique j (rule_of e) (subst (λ n. j < n) count below) both

-- so it is below 2 ^ 32
pub number_is_small : (least most : ℕ) (t : List ℕ) → most ≤ 2 ^ 32 - 1 → IsSignedIn (pos least) (pos most) t
    → IsSignedIn (pos 0) (pos (2 ^ 32 - 1)) t
number_is_small least most t few low =
    let from = low.2 in
    let high = low.3 in
    (low.0, low.1, omega (arith, ints, from), omega (arith, ints, few, high))

-- the number of an option, or the one that stands for it
pub number_is_within : (rows : List Row) (name : Text) (default least most : ℕ) → least ≤ default → default ≤ most
    → ((t : List ℕ) → first_of name rows ≡ Some t → IsSignedIn (pos least) (pos most) t)
    → (least ≤ number_of rows name default) × (number_of rows name default ≤ most)
number_is_within rows name default least most some fits each = go (first_of name rows) refl
  where
    go : (o : Option (List ℕ)) → first_of name rows ≡ o
        → (least ≤ unwrap_or (option_map (λ text. nat_abs (signed_digits_value 10 text)) o) default)
        × (unwrap_or (option_map (λ text. nat_abs (signed_digits_value 10 text)) o) default ≤ most)
    go None is = (some, fits)
    go (Some t) is =
        let low = each t is in
        let from = low.2 in
        let high = low.3 in
        (omega (arith, ints, from, high), omega (arith, ints, from, high))

-- ---- the numbers of the commands

not_empty : (a : ℕ) (rest : List ℕ) → a ∷ rest ≡ [] → ⊥
not_empty a rest e = let bad = ap length e in absurd (omega (arith, bad))

pub workers_are_there : HasNumber edit_app 1 (codes "workers") 0 8 false
workers_are_there = record {
  plain = refl;
  simple = refl;
  within = omega arith;
  rule = λ r. refl;
  unique = unique;
  named = not_empty 119 (codes "orkers");
  own = λ auto. elim auto [
    | inl e ↦ let bad = ap (λ l. slice_index_or l 0 0) e in absurd (omega (arith, bad))
    | inr e ↦ let bad = ap (λ l. slice_index_or l 0 0) e in absurd (omega (arith, bad))
  ];
}
  where
    unique : (j : ℕ) (r : Rule) → j < length edit_app.top.rules
        → bytes_eq (slice_index_or edit_app.top.rules j r).id (codes "workers") ≡ true → j ≡ 1
    unique zero r below same = cc
    unique (suc zero) r below same = refl
    unique (suc (suc j)) r below same = absurd (omega (arith, below))

pub seed_is_there : HasNumber make_app 1 (codes "seed") 0 (2 ^ 32 - 1) true
seed_is_there = record {
  plain = refl;
  simple = refl;
  within = omega arith;
  rule = λ r. refl;
  unique = unique;
  named = not_empty 115 (codes "eed");
  own = λ auto. elim auto [
    | inl e ↦ let bad = ap (λ l. slice_index_or l 0 0) e in absurd (omega (arith, bad))
    | inr e ↦ let bad = ap (λ l. slice_index_or l 0 0) e in absurd (omega (arith, bad))
  ];
}
  where
    unique : (j : ℕ) (r : Rule) → j < length make_app.top.rules
        → bytes_eq (slice_index_or make_app.top.rules j r).id (codes "seed") ≡ true → j ≡ 1
    unique zero r below same = cc
    unique (suc zero) r below same = refl
    unique (suc (suc j)) r below same = absurd (omega (arith, below))

pub cols_are_there : HasNumber view_app 1 (codes "cols") 1 16 true
cols_are_there = record {
  plain = refl;
  simple = refl;
  within = omega arith;
  rule = λ r. refl;
  unique = unique;
  named = not_empty 99 (codes "ols");
  own = λ auto. elim auto [
    | inl e ↦ let bad = ap (λ l. slice_index_or l 0 0) e in absurd (omega (arith, bad))
    | inr e ↦ let bad = ap (λ l. slice_index_or l 0 0) e in absurd (omega (arith, bad))
  ];
}
  where
    unique : (j : ℕ) (r : Rule) → j < length view_app.top.rules
        → bytes_eq (slice_index_or view_app.top.rules j r).id (codes "cols") ≡ true → j ≡ 1
    unique zero r below same = cc
    unique (suc zero) r below same = refl
    unique (suc (suc zero)) r below same = cc
    unique (suc (suc (suc j))) r below same = absurd (omega (arith, below))

pub rows_are_there : HasNumber view_app 2 (codes "rows") 1 16 true
rows_are_there = record {
  plain = refl;
  simple = refl;
  within = omega arith;
  rule = λ r. refl;
  unique = unique;
  named = not_empty 114 (codes "ows");
  own = λ auto. elim auto [
    | inl e ↦ let bad = ap (λ l. slice_index_or l 0 0) e in absurd (omega (arith, bad))
    | inr e ↦ let bad = ap (λ l. slice_index_or l 0 0) e in absurd (omega (arith, bad))
  ];
}
  where
    unique : (j : ℕ) (r : Rule) → j < length view_app.top.rules
        → bytes_eq (slice_index_or view_app.top.rules j r).id (codes "rows") ≡ true → j ≡ 2
    unique zero r below same = cc
    unique (suc zero) r below same = cc
    unique (suc (suc zero)) r below same = refl
    unique (suc (suc (suc j))) r below same = absurd (omega (arith, below))
