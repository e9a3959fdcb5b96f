-- The seats of a run, joined one after another.
use Rattle.std.proofs.Common.{◌≡◌, ℕ, ◌+◌, Bool, true, false, List, [], ◌∷◌, ◌++◌, length, map, flat_map}
use Rattle.std.proofs.Common.{Option, None, Some, refl, sym, ap, ◌∙◌}
use Rattle.std.proofs.Common.{subst, arith, append_assoc, append-nil}
use Rattle.std.specs.Prelude.{◌&&◌, is_none, string_bytes, String, Vec}
use Rattle.std.specs.Option.{option_or}
use Rattle.std.specs.List.{AllByRecursion, list_all}
use Rattle.std.specs.declared.alloc.Global.{Global}
use Rattle.std.proofs.lemmas.List.Concat.{flat_map-cons}
use Rattle.std.proofs.lemmas.List.{map-append}
use mathlib.Core.List.{IsPrefix}
use Rattle.xl_sessions.specs.Full.{IsNotFull}
use Rattle.xl_sessions.specs.Outcomes.{texts_of}
use Rattle.xl_sessions.specs.Players.{first_stopped, places_of, shown_of, weight_in, AreKnown, AreSeats, HasWorked}
use Rattle.xl_sessions.specs.declared.players.Player.{Player}
use Rattle.xl_sessions.specs.declared.players.Worker.{Worker}
use Rattle.xl_run.specs.declared.unplayed.Unplayed.{Unplayed}
use Rattle.xl_studio.specs.declared.moment.Moment.{Moment}
use Rattle.xl_studio.specs.declared.seat.Seat.{Seat}
use Rattle.xl_studio.specs.declared.seat.Studio.{Studio}
use Rattle.xl_studio.specs.Jobs.{job_out}
use Rattle.xl_studio.specs.Seats.{front_of, made_of, weight_of, IsSeatOf}
use Rattle.xl_studio.specs.State.{State}
use Rattle.xl_turn.specs.declared.view.Chronicle.{Ghosts}
use Rattle.xl_turn.specs.Sums.{total}
use Rattle.xl_turn.proofs.Fronts.{prefix_self, prefix_trans}

none_is_not_full : IsNotFull None
none_is_not_full is = let bad : true ≡ false = ap is_none is in cc

first_not_full : (first second : Option Unplayed) → IsNotFull first → IsNotFull second → IsNotFull (option_or first second)
first_not_full None second not_first not_second = not_second
first_not_full (Some why) second not_first not_second = not_first

first_is_none : (first second : Option Unplayed) → is_none (option_or first second) ≡ (is_none first && is_none second)
first_is_none None second = refl
first_is_none (Some why) second = refl

or_assoc : (one two three : Option Unplayed) → option_or (option_or one two) three ≡ option_or one (option_or two three)
or_assoc None two three = refl
or_assoc (Some why) two three = refl

or_none : (one : Option Unplayed) → option_or one None ≡ one
or_none None = refl
or_none (Some why) = refl

module _ {K : Type 0} {C : Ghosts (State K) (Moment K)} {X : Type 0} {H : X → Type 0} where
  none_stopped : (players : List (Player (Seat K C) X H))
      → is_none (first_stopped players) ≡ list_all (λ (p : Player (Seat K C) X H). is_none p.stopped) players
  none_stopped [] = refl
  none_stopped (p ∷ ps) = first_is_none p.stopped (first_stopped ps) ∙ ap (λ (b : Bool). is_none p.stopped && b) (none_stopped ps)

  all_not_full : (players : List (Player (Seat K C) X H)) → AllByRecursion (λ (p : Player (Seat K C) X H). IsNotFull p.stopped) players
      → IsNotFull (first_stopped players)
  all_not_full [] none_full = none_is_not_full
  all_not_full (p ∷ ps) none_full = first_not_full p.stopped (first_stopped ps) none_full.0 (all_not_full ps none_full.1)

  -- some players were joined, and these are left
  pub record IsJoining (studio : Studio K) (before : Seat K C) (all left : List (Player (Seat K C) X H)) (own : Seat K C)
      (texts : List (Vec (String Global) Global)) (stopped : Option Unplayed) : Type 0 where
    pub seat : IsSeatOf studio own
    pub seats : AreSeats studio left
    pub job : job_out own ≡ job_out before
    pub made : made_of own ++ flat_map places_of left ≡ made_of before ++ flat_map places_of all
    pub weight : weight_of own + total weight_in left ≡ weight_of before + total weight_in all
    pub known : (front : List (Moment K)) → IsPrefix (front_of own) front → AreKnown front left
        → IsPrefix (front_of before) front × AreKnown front all
    pub shown : texts_of texts ++ map shown_of left ≡ map shown_of all
    pub first : option_or stopped (first_stopped left) ≡ first_stopped all

  pub joining_none : (studio : Studio K) (own : Seat K C) (all left : List (Player (Seat K C) X H))
      (texts : List (Vec (String Global) Global)) → left ≡ all → texts ≡ [] → IsSeatOf studio own → AreSeats studio all
      → IsJoining studio own all left own texts None
  joining_none studio own all left texts whole none seat seats =
      subst (λ (ps : List (Player (Seat K C) X H)). IsJoining studio own all ps own texts None) (sym whole)
      (subst (λ ts. IsJoining studio own all all own ts None) (sym none) (record {
        seat = seat;
        seats = seats;
        job = refl;
        made = refl;
        weight = refl;
        known = λ front begins known. (begins, known);
        shown = refl;
        first = refl;
      }))

  module _ {studio : Studio K} {before own : Seat K C} {all left : List (Player (Seat K C) X H)}
      {texts : List (Vec (String Global) Global)} {stopped : Option Unplayed}
      (p : Player (Seat K C) X H) (rest : List (Player (Seat K C) X H)) (up : IsJoining studio before all left own texts stopped)
      (turn : left ≡ p ∷ rest) where
    now : IsJoining studio before all (p ∷ rest) own texts stopped
    now = subst (λ (ps : List (Player (Seat K C) X H)). IsJoining studio before all ps own texts stopped) turn up

    pub joining_seat : IsSeatOf studio p.seat
    joining_seat = now.seats.0.0

    pub joining_free : job_out p.seat ≡ None
    joining_free = now.seats.0.1

    pub joining_more : (new : Seat K C) (more : List (Vec (String Global) Global)) (still : Option Unplayed) → IsSeatOf studio new
        → job_out new ≡ job_out own
        → made_of new ≡ made_of own ++ made_of p.seat → weight_of new ≡ weight_of own + weight_of p.seat
        → IsPrefix (front_of own) (front_of new) → IsPrefix (front_of p.seat) (front_of new) → more ≡ texts ++ p.digests ∷ []
        → still ≡ option_or stopped p.stopped → IsJoining studio before all rest new more still
    joining_more new more still seat job made weight begins other longer still_is =
        let was = now.weight in
        record {
          seat = seat;
          seats = now.seats.1;
          job = job ∙ now.job;
          made = ap (λ (ps : List ℕ). ps ++ flat_map places_of rest) made
              ∙ append_assoc (made_of own) (made_of p.seat) (flat_map places_of rest)
              ∙ ap (λ (ps : List ℕ). made_of own ++ ps) (sym (flat_map-cons places_of p rest)) ∙ now.made;
          weight = omega (arith, was, weight);
          known = λ front at known. now.known front (prefix_trans (front_of own) (front_of new) front begins at)
              (prefix_trans (front_of p.seat) (front_of new) front other at, known);
          shown = ap (λ ts. texts_of ts ++ map shown_of rest) longer
              ∙ ap (λ (ts : List (List (List ℕ))). ts ++ map shown_of rest)
              (map-append (λ (ts : Vec (String Global) Global). map string_bytes ts.items) texts (p.digests ∷ []))
              ∙ append_assoc (texts_of texts) (shown_of p ∷ []) (map shown_of rest) ∙ now.shown;
          first = ap (λ (why : Option Unplayed). option_or why (first_stopped rest)) still_is
              ∙ or_assoc stopped p.stopped (first_stopped rest) ∙ now.first;
        }

  module _ {studio : Studio K} {before own : Seat K C} {all left : List (Player (Seat K C) X H)}
      {texts : List (Vec (String Global) Global)} {stopped : Option Unplayed}
      (up : IsJoining studio before all left own texts stopped) (none : left ≡ []) where
    end : IsJoining studio before all [] own texts stopped
    end = subst (λ (ps : List (Player (Seat K C) X H)). IsJoining studio before all ps own texts stopped) none up

    pub joined_made : made_of own ≡ made_of before ++ flat_map places_of all
    joined_made = sym (append-nil (made_of own)) ∙ end.made

    pub joined_job : job_out own ≡ job_out before
    joined_job = end.job

    pub joined_weight : weight_of own ≡ weight_of before + total weight_in all
    joined_weight = let was = end.weight in omega (arith, was)

    pub joined_begins : IsPrefix (front_of before) (front_of own)
    joined_begins = (end.known (front_of own) (prefix_self (front_of own)) tt).0

    pub joined_known : AreKnown (front_of own) all
    joined_known = (end.known (front_of own) (prefix_self (front_of own)) tt).1

    pub joined_shown : texts_of texts ≡ map shown_of all
    joined_shown = sym (append-nil (texts_of texts)) ∙ end.shown

    pub joined_first : stopped ≡ first_stopped all
    joined_first = sym (or_none stopped) ∙ end.first

    pub joined_done : is_none stopped ≡ list_all (λ (p : Player (Seat K C) X H). is_none p.stopped) all
    joined_done = ap is_none joined_first ∙ none_stopped all

    pub joined_not_full : AllByRecursion (λ (p : Player (Seat K C) X H). IsNotFull p.stopped) all → IsNotFull stopped
    joined_not_full none_full = subst IsNotFull (sym joined_first) (all_not_full all none_full)

module _ {K : Type 0} {C : Ghosts (State K) (Moment K)} where
  -- some workers were joined, and these are left
  pub record AreJoiningWorkers (studio : Studio K) (before : Seat K C) (count : ℕ) (left : List (Worker (Seat K C)))
      (own : Seat K C) : Type 0 where
    pub seat : IsSeatOf studio own
    pub worked : AllByRecursion (HasWorked studio) left
    pub job : job_out own ≡ job_out before
    pub made : made_of own ≡ made_of before
    pub weight : weight_of own + length left ≡ weight_of before + count
    pub begins : IsPrefix (front_of before) (front_of own)

  pub workers_none : (studio : Studio K) (own : Seat K C) (all left : List (Worker (Seat K C))) → left ≡ all → IsSeatOf studio own
      → AllByRecursion (HasWorked studio) all → AreJoiningWorkers studio own (length all) left own
  workers_none studio own all left whole seat worked = record {
    seat = seat;
    worked = subst (AllByRecursion (HasWorked studio)) (sym whole) worked;
    job = refl;
    made = refl;
    weight = ap (λ n. weight_of own + n) (ap length whole);
    begins = prefix_self (front_of own);
  }

  module _ {studio : Studio K} {before own : Seat K C} {count : ℕ} {left : List (Worker (Seat K C))} (w : Worker (Seat K C))
      (rest : List (Worker (Seat K C))) (up : AreJoiningWorkers studio before count left own) (turn : left ≡ w ∷ rest) where
    first_worked : AllByRecursion (HasWorked studio) (w ∷ rest)
    first_worked = subst (AllByRecursion (HasWorked studio)) turn up.worked

    pub worker_seat : IsSeatOf studio w.seat
    worker_seat = first_worked.0.seat

    pub worker_free : job_out w.seat ≡ None
    worker_free = first_worked.0.job

    pub workers_more : (new : Seat K C) → IsSeatOf studio new → job_out new ≡ job_out own → made_of new ≡ made_of own ++ made_of w.seat
        → weight_of new ≡ weight_of own + weight_of w.seat → IsPrefix (front_of own) (front_of new)
        → AreJoiningWorkers studio before count rest new
    workers_more new seat job made weight begins =
        let was = up.weight in
        let longer = ap length turn in
        let one = first_worked.0.light in
        record {
          seat = seat;
          worked = first_worked.1;
          job = job ∙ up.job;
          made = made ∙ ap (λ (ps : List ℕ). made_of own ++ ps) first_worked.0.none ∙ append-nil (made_of own) ∙ up.made;
          weight = omega (arith, was, longer, one, weight);
          begins = prefix_trans (front_of before) (front_of own) (front_of new) up.begins begins;
        }
