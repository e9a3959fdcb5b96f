-- How what a crash leaves goes on over several calls of a shelf.
use Rattle.std.proofs.Common.{◌⊎◌, inl, inr, ⊎_elim, ℕ, ◌≤◌, List, Option, Some, None, refl, sym, ◌∙◌, subst, arith}
use Rattle.std.specs.Prelude.{Contains}
use Rattle.xl_ports.specs.Shelf.{Content}
use Rattle.xl_ports.specs.Disk.{Disk, MayLeave, MightHaveLeft, Between, Elapses, Stays, IsQuiet, StaysThrough, OthersStay}
use Rattle.xl_ports.specs.Disk.{KeepsDraft}

-- one relation after another, where the disks are known
pub one_then : (R S T : Disk → Disk → Type 0) → ((a b c : Disk) → R a b → S b c → T a c) → (old mid new : Option Disk)
    → Between old mid R → Between mid new S → Between old new T
one_then R S T joined None None None first second = tt
one_then R S T joined (Some a) (Some b) (Some c) first second = joined a b c first second
one_then R S T joined None None (Some c) first second = absurd second
one_then R S T joined None (Some b) new first second = absurd first
one_then R S T joined (Some a) None new first second = absurd first
one_then R S T joined (Some a) (Some b) None first second = absurd second

-- two relations of the same disks
pub both : (R S T : Disk → Disk → Type 0) → ((a b : Disk) → R a b → S a b → T a b) → (old new : Option Disk) → Between old new R
    → Between old new S → Between old new T
both R S T joined None None first second = tt
both R S T joined (Some a) (Some b) first second = joined a b first second
both R S T joined None (Some b) first second = absurd first
both R S T joined (Some a) None first second = absurd first

-- a weaker relation
pub weaker : (R T : Disk → Disk → Type 0) → ((a b : Disk) → R a b → T a b) → (old new : Option Disk) → Between old new R
    → Between old new T
weaker R T made old new first = both R R T (λ a b r s. made a b r) old new first first

pub stays_then : {a b c : Disk} (name : List ℕ) → Stays a b name → Stays b c name → Stays a c name
stays_then name first second = record { read = second.read ∙ first.read; others = second.others ∙ first.others }

-- what a crash leaves under a name that stays
pub stays_back : (a b : Disk) (name : List ℕ) → Stays a b name → (c : Content) → MayLeave b name c → MayLeave a name c
stays_back a b name stays c (inl read) = inl (read ∙ stays.read)
stays_back a b name stays c (inr other) = inr (subst (λ (l : List Content). Contains l c) stays.others other)

pub stays_on : (a b : Disk) (name : List ℕ) → Stays a b name → (c : Content) → MayLeave a name c → MayLeave b name c
stays_on a b name stays c (inl read) = inl (read ∙ sym stays.read)
stays_on a b name stays c (inr other) = inr (subst (λ (l : List Content). Contains l c) (sym stays.others) other)

pub no_time : (a : Disk) → Elapses a a
no_time a = record { later = omega arith; nothing_else = λ name since c le left. inl left; keeps = λ name since c le left. left }

-- A call after others, where what may be left between them might have been left before, or is this.
pub goes_on : (a b c : Disk) (name : List ℕ) (P : Content → Type 0) → a.moment ≤ b.moment
    → ((since : ℕ) (x : Content) → since ≤ a.moment → MightHaveLeft b name since x → MightHaveLeft a name since x ⊎ P x)
    → Elapses b c → ((x : Content) → MayLeave c name x → MayLeave a name x ⊎ P x)
    → (since : ℕ) (x : Content) → since ≤ a.moment → MightHaveLeft c name since x → MightHaveLeft a name since x ⊎ P x
goes_on a b c name P later so_far time here since x le left =
    ⊎_elim (so_far since x le) (λ now. ⊎_elim (λ may. inl (inl may)) (λ p. inr p) (here x now))
    (time.nothing_else name since x (omega (arith, le, later)) left)

-- one quiet call after another
pub quiet_then : (a b c : Disk) → IsQuiet a b → IsQuiet b c → IsQuiet a c
quiet_then a b c first second = record {
  stays = λ name. stays_then name (first.stays name) (second.stays name);
  time = record {
    later = omega (arith, first.time.later, second.time.later);
    nothing_else = λ name since x le left. ⊎_elim
        (λ before. ⊎_elim (λ was. inl was) (λ may. inl (inl (stays_back a b name (first.stays name) x may)))
        (first.time.nothing_else name since x le before))
        (λ now. inr now)
        (second.time.nothing_else name since x (omega (arith, le, first.time.later)) left);
    keeps = λ name since x le left. second.time.keeps name since x (omega (arith, le, first.time.later))
        (first.time.keeps name since x le left);
  };
}

-- ---- names that stay at each moment

through_still : (a : Disk) (name : List ℕ) → StaysThrough a a name
through_still a name = record {
  later = omega arith;
  stays = record { read = refl; others = refl };
  nothing_new = λ since x le left. left;
  keeps = λ since x le left. left;
}

through_then : (a b c : Disk) (name : List ℕ) → StaysThrough a b name → StaysThrough b c name → StaysThrough a c name
through_then a b c name first second =
    let later = first.later in
    record {
      later = omega (arith, later, second.later);
      stays = stays_then name first.stays second.stays;
      nothing_new = λ since x le left. first.nothing_new since x le (second.nothing_new since x (omega (arith, le, later)) left);
      keeps = λ since x le left. second.keeps since x (omega (arith, le, later)) (first.keeps since x le left);
    }

pub quiet_through : (a b : Disk) (name : List ℕ) → IsQuiet a b → StaysThrough a b name
quiet_through a b name quiet = record {
  later = quiet.time.later;
  stays = quiet.stays name;
  nothing_new = λ since x le left. ⊎_elim (λ was. was) (λ may. inl (stays_back a b name (quiet.stays name) x may))
      (quiet.time.nothing_else name since x le left);
  keeps = quiet.time.keeps name;
}

pub others_still : (a : Disk) (name : List ℕ) → OthersStay name a a
others_still a name other not = through_still a other

pub others_then : (a b c : Disk) (name : List ℕ) → OthersStay name a b → OthersStay name b c → OthersStay name a c
others_then a b c name first second other not = through_then a b c other (first other not) (second other not)

pub quiet_others : (a b : Disk) (name : List ℕ) → IsQuiet a b → OthersStay name a b
quiet_others a b name quiet other not = quiet_through a b other quiet

-- ---- calls that change nothing

pub quiet_still : (a : Disk) → IsQuiet a a
quiet_still a = record { stays = λ name. record { read = refl; others = refl }; time = no_time a }

-- nothing was called
pub still : (disk : Option Disk) → Between disk disk IsQuiet
still None = tt
still (Some a) = quiet_still a

pub quiet_quiet : (old mid new : Option Disk) → Between old mid IsQuiet → Between mid new IsQuiet → Between old new IsQuiet
quiet_quiet old mid new = one_then IsQuiet IsQuiet IsQuiet quiet_then old mid new

pub kept_kept : (old mid new : Option Disk) → Between old mid KeepsDraft → Between mid new KeepsDraft → Between old new KeepsDraft
kept_kept old mid new = one_then KeepsDraft KeepsDraft KeepsDraft (λ a b c first second. second ∙ first) old mid new
