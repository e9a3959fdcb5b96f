-- Pieces that are written one after another.
use Rattle.std.proofs.Common.{◌≡◌, ℕ, ◌+◌, ◌-◌, List, [], ◌++◌, length, take, drop, Option, Some, None, refl, sym, ◌∙◌}
use Rattle.std.proofs.Common.{ap, subst, arith, append_assoc, length-append}
use Rattle.std.proofs.lemmas.List.{append-nil, take-append-le, take_all, length-drop}
use Rattle.std.proofs.Math.Seq.{take-append-add, take-add}
use Rattle.xl_ports.specs.Sink.{appended, WritesAll, WritesPart}

-- nothing more
pub appended-nil : (held : Option (List ℕ)) → appended held [] ≡ held
appended-nil None = refl
appended-nil (Some before) = ap Some (append-nil before)

-- twice
pub appended-appended : (held : Option (List ℕ)) (xs ys : List ℕ) → appended (appended held xs) ys ≡ appended held (xs ++ ys)
appended-appended None xs ys = refl
appended-appended (Some before) xs ys = ap Some (append_assoc before xs ys)

module _ {K : Type 0} (held : K → Option (List ℕ)) (faults : K → ℕ) where
  -- before the first piece
  pub none_written : (k : K) → WritesAll held faults k k []
  none_written k = record { holds = sym (appended-nil (held k)); no_fault = refl }

  -- a piece behind another
  pub all_then_all : (old mid new : K) (xs ys : List ℕ) → WritesAll held faults old mid xs → WritesAll held faults mid new ys
      → WritesAll held faults old new (xs ++ ys)
  all_then_all old mid new xs ys first second = record {
    holds = second.holds ∙ ap (λ (h : Option (List ℕ)). appended h ys) first.holds ∙ appended-appended (held old) xs ys;
    no_fault = second.no_fault ∙ first.no_fault;
  }

  -- a fault in the piece behind
  pub all_then_part : (old mid new : K) (xs ys : List ℕ) → WritesAll held faults old mid xs → WritesPart held faults mid new ys
      → WritesPart held faults old new (xs ++ ys)
  all_then_part old mid new xs ys first second = record {
    count = length xs + second.count;
    within = omega (arith, length-append xs ys, second.within);
    holds = second.holds ∙ ap (λ (h : Option (List ℕ)). appended h (take second.count ys)) first.holds
        ∙ appended-appended (held old) xs (take second.count ys)
        ∙ ap (λ (l : List ℕ). appended (held old) l) (sym (take-append-add xs ys second.count));
    fault = rw (sym first.no_fault) second.fault;
  }

  -- a fault in the piece before
  pub part_of_more : (old new : K) (xs ys : List ℕ) → WritesPart held faults old new xs → WritesPart held faults old new (xs ++ ys)
  part_of_more old new xs ys first = record {
    count = first.count;
    within = omega (arith, length-append xs ys, first.within);
    holds = first.holds ∙ ap (λ (l : List ℕ). appended (held old) l) (sym (take-append-le first.count xs ys first.within));
    fault = first.fault;
  }

  -- one call more, on what is left of the bytes
  pub one_more : (old mid new : K) (bytes : List ℕ) (done k : ℕ) → WritesAll held faults old mid (take done bytes)
      → held new ≡ appended (held mid) (take k (take (length bytes - done) (drop done bytes))) → faults new ≡ faults mid
      → WritesAll held faults old new (take (done + k) bytes)
  one_more old mid new bytes done k first taken no_fault =
      let rest : take (length bytes - done) (drop done bytes) ≡ drop done bytes =
      take_all _ _ (omega (arith, length-drop done bytes)) in
      let second : WritesAll held faults mid new (take k (drop done bytes)) = record {
        holds = taken ∙ ap (λ (l : List ℕ). appended (held mid) (take k l)) rest;
        no_fault = no_fault;
      } in
      subst (WritesAll held faults old new) (sym (take-add done k bytes))
      (all_then_all old mid new (take done bytes) (take k (drop done bytes)) first second)
