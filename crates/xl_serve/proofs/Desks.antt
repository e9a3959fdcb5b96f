-- The desk of a session, one of the eight.
use Rattle.std.proofs.Common.{◌≡◌, ℕ, zero, suc, ◌<◌, List, [], ◌∷◌, length, map, slice_set, refl, sym, ap, ◌∙◌, subst, get_or}
use Rattle.std.specs.Prelude.{Option, slice_index}
use Rattle.std.proofs.lemmas.List.{get_or-map}
use Rattle.spec_filters.specs.declared.FilterState.{FilterState}
use Rattle.spec_script.specs.Script.{Line}
use Rattle.spec_serve.specs.Hearing.{Hearing}
use Rattle.xl_history.specs.History.{History}
use Rattle.xl_run.specs.Filters.{FitsChest}
use Rattle.xl_serve.specs.Played.{IsPlayed}
use Rattle.xl_serve.specs.Serving.{now_of, IsPlayedOn}
use Rattle.xl_serve.specs.Standing.{SeatState, seat_of}

map_set : {D X : Type 0} (f : D → X) (ds : List D) (i : ℕ) (d : D) → map f (slice_set ds i d) ≡ slice_set (map f ds) i (f d)
map_set f [] i d = refl
map_set f (x ∷ ds) zero d = refl
map_set f (x ∷ ds) (suc i) d = ap (λ xs. f x ∷ xs) (map_set f ds i d)

module _ {D : Type 0} (f : D → List (Option FilterState)) where
  chest_is : (ds : List D) (session : ℕ) (d : D) → session < length ds → d ≡ get_or ds session d → f d ≡ get_or (map f ds) session []
  chest_is ds session d lt is = ap f is ∙ sym (get_or-map f ds session d [] lt)

  -- what the session's line asks of the chests it asks of that of the desk
  pub fits_desk : (ds : List D) (session : ℕ) (d : D) (line : Line) → session < length ds → d ≡ get_or ds session d
      → FitsChest (get_or (map f ds) session []) line → FitsChest (f d) line
  fits_desk ds session d line lt is fits =
      subst (λ (chest : List (Option FilterState)). FitsChest chest line) (sym (chest_is ds session d lt is)) fits

  pub on_desk : (session : ℕ) (line : Line) (h then_h : History) (heard then_heard : Hearing) (seen then_seen : List ℕ)
      (ds then_ds : List D) (viewed then_viewed : Option History) (d then_d : D) (n then_n : ℕ) (text : List ℕ)
      → session < length ds → d ≡ get_or ds session d → n ≡ slice_index seen session
      → IsPlayed session line h then_h (seat_of n (f d)) (seat_of then_n (f then_d)) text
      → then_seen ≡ slice_set seen session then_n → then_ds ≡ slice_set ds session then_d
      → IsPlayedOn session line (now_of h heard seen (map f ds) viewed) (now_of then_h then_heard then_seen (map f then_ds) then_viewed) text
  on_desk session line h then_h heard then_heard seen then_seen ds then_ds viewed then_viewed d then_d n then_n text lt is at played
      seen_is ds_is = record {
        seen = then_n;
        chest = f then_d;
        played = subst (λ (seat : SeatState). IsPlayed session line h then_h seat (seat_of then_n (f then_d)) text)
            (λ i. seat_of (at i) (chest_is ds session d lt is i)) played;
        seen_is = seen_is;
        chests_is = ap (map f) ds_is ∙ map_set f ds session then_d;
      }
