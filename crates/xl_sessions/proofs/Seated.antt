-- The parts of the sessions, seated one after another.
use Rattle.std.proofs.Common.{◌≡◌, ◌+◌, ◌≤◌, false, List, [], ◌∷◌, ◌++◌, length, None, refl, sym, ap, ◌∙◌, subst}
use Rattle.std.proofs.Common.{arith, append_assoc, append-nil, length-append}
use Rattle.std.specs.List.{AllByRecursion}
use Rattle.spec_seats.proofs.More.{all_more}
use Rattle.xl_sessions.specs.Players.{IsSeated, AreSeated, IsFree, AreFree, AreNumbered}
use Rattle.xl_sessions.specs.declared.players.SessionPart.{SessionPart}
use Rattle.xl_sessions.specs.declared.players.Player.{Player}
use Rattle.xl_sessions.specs.declared.players.Worker.{Worker}
use Rattle.xl_sessions.proofs.Zips.{from_first_more}
use Rattle.xl_studio.specs.declared.moment.Moment.{Moment}
use Rattle.xl_studio.specs.declared.seat.Seat.{Seat}
use Rattle.xl_studio.specs.declared.seat.Studio.{Studio}
use Rattle.xl_studio.specs.Calling.{Known}
use Rattle.xl_studio.specs.Jobs.{job_out}
use Rattle.xl_studio.specs.Seats.{front_of, made_of, weight_of, known_by, IsSeatOf}
use Rattle.xl_studio.specs.State.{State}
use Rattle.xl_turn.specs.declared.view.Chronicle.{Ghosts}

module _ {K : Type 0} {C : Ghosts (State K) (Moment K)} {X : Type 0} {H : X → Type 0} where
  -- some parts were seated, and these are left
  pub record AreSeating (studio : Studio K) (before : Seat K C) (all left : List (SessionPart X H))
      (players : List (Player (Seat K C) X H)) (own : Seat K C) : Type 0 where
    pub seat : IsSeatOf studio own
    pub stays : known_by own ≡ known_by before
    pub job : job_out own ≡ job_out before
    pub weight : weight_of own + length all ≡ weight_of before + length left
    pub count : length players + length left ≡ length all
    pub seated : (rest : List (Player (Seat K C) X H)) → AreSeated studio (front_of before) left rest
        → AreSeated studio (front_of before) all (players ++ rest)

  pub seating_none : (studio : Studio K) (own : Seat K C) (all left : List (SessionPart X H)) (players : List (Player (Seat K C) X H))
      → left ≡ all → players ≡ [] → IsSeatOf studio own → AreSeating studio own all left players own
  seating_none studio own all left players whole none seat =
      subst (λ (ps : List (SessionPart X H)). AreSeating studio own all ps players own) (sym whole)
      (subst (λ (ps : List (Player (Seat K C) X H)). AreSeating studio own all all ps own) (sym none) (record {
        seat = seat;
        stays = refl;
        job = refl;
        weight = refl;
        count = omega arith;
        seated = λ rest seated. seated;
      }))

  module _ {studio : Studio K} {before own : Seat K C} {all left : List (SessionPart X H)} {players : List (Player (Seat K C) X H)}
      (part : SessionPart X H) (rest : List (SessionPart X H)) (up : AreSeating studio before all left players own)
      (turn : left ≡ part ∷ rest) where
    pub seating_weight : length all + 1 ≤ weight_of before → 2 ≤ weight_of own
    seating_weight enough = let was = up.weight in let longer = ap length turn in omega (arith, was, longer, enough)

    pub seating_more : (new : Seat K C) (p : Player (Seat K C) X H) (more : List (Player (Seat K C) X H))
        → more ≡ players ++ p ∷ [] → IsSeatOf studio new → known_by new ≡ known_by own → job_out new ≡ job_out own
        → weight_of new + 1 ≡ weight_of own
        → p.part ≡ part → IsSeatOf studio p.seat → front_of p.seat ≡ front_of own → made_of p.seat ≡ [] → weight_of p.seat ≡ 1
        → job_out p.seat ≡ None → p.digests.items ≡ [] → AreSeating studio before all rest more new
    seating_more new p more longer seat stays job lighter part_is own_seat front none light free blank =
        let was = up.weight in
        let many = up.count in
        let one = ap length turn in
        let grown : length more ≡ length players + 1 = ap length longer ∙ length-append players (p ∷ []) in
        let is : IsSeated studio (front_of before) part p = record {
          part_is = part_is;
          seat = own_seat;
          front_is = front ∙ ap (λ (k : Known K). k.front) up.stays;
          none = none;
          light = light;
          free = free;
          blank = blank;
        } in
        let whole : (others : List (Player (Seat K C) X H)) → AreSeated studio (front_of before) rest others
        → AreSeated studio (front_of before) all (players ++ p ∷ others) =
        λ others seated. up.seated (p ∷ others)
        (subst (λ (ps : List (SessionPart X H)). AreSeated studio (front_of before) ps (p ∷ others)) (sym turn) (is, seated)) in
        record {
          seat = seat;
          stays = stays ∙ up.stays;
          job = job ∙ up.job;
          weight = omega (arith, was, one, lighter);
          count = omega (arith, many, one, grown);
          seated = λ others seated. subst (λ (ps : List (Player (Seat K C) X H)). AreSeated studio (front_of before) all ps)
              (sym (append_assoc players (p ∷ []) others) ∙ ap (λ (ps : List (Player (Seat K C) X H)). ps ++ others) (sym longer))
              (whole others seated);
        }

  module _ {studio : Studio K} {before own : Seat K C} {all left : List (SessionPart X H)} {players : List (Player (Seat K C) X H)}
      (up : AreSeating studio before all left players own) (none : left ≡ []) where
    pub all_seated : AreSeated studio (front_of before) all players
    all_seated =
        subst (λ (ps : List (Player (Seat K C) X H)). AreSeated studio (front_of before) all ps) (append-nil players)
        (up.seated [] (subst (λ (ps : List (SessionPart X H)). AreSeated {C = C} studio (front_of before) ps []) (sym none) tt))

    pub all_lighter : weight_of own + length all ≡ weight_of before
    all_lighter = let was = up.weight in let nothing = ap length none in omega (arith, was, nothing)

module _ {K : Type 0} {C : Ghosts (State K) (Moment K)} where
  pub one_more_free : (studio : Studio K) (workers more : List (Worker (Seat K C))) (w : Worker (Seat K C))
      → AreFree studio workers → more ≡ workers ++ w ∷ []
      → IsSeatOf studio w.seat → made_of w.seat ≡ [] → weight_of w.seat ≡ 1 → job_out w.seat ≡ None → w.seat.closed ≡ false
      → AreFree studio more
  one_more_free studio workers more w free longer seat none light job going =
      subst (AllByRecursion (IsFree studio)) (sym longer)
      (all_more (IsFree studio) workers w free (record { seat = seat; none = none; light = light; job = job; going = going }))

  pub one_more_numbered : (workers more : List (Worker (Seat K C))) (w : Worker (Seat K C)) → AreNumbered workers
      → more ≡ workers ++ w ∷ [] → w.number ≡ length workers → AreNumbered more
  one_more_numbered workers more w numbered longer place =
      let next : w.number ≡ 0 + length workers = omega (arith, place) in
      subst (λ (ws : List (Worker (Seat K C))). AreNumbered ws) (sym longer)
      (from_first_more (λ n (x : Worker (Seat K C)). x.number ≡ n) 0 workers w numbered next)
