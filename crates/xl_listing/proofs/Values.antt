-- The values of a list, of which the first are made.
use Rattle.std.proofs.Common.{◌≡◌, ℕ, ◌+◌, ◌<◌, List, [], ◌∷◌, ◌++◌, map, take, length, get_or, sym, ap, ◌∙◌, append_assoc}
use Rattle.std.proofs.lemmas.List.{flat_map_more, map-append, map_more, map_push, take_more}
use Rattle.serde_json.specs.Data.{Data}
use Rattle.serde_json.specs.View.{view}
use Rattle.serde_json.specs.declared.value.Value.{Value}
use Rattle.spec_document.specs.Document.{Kept}
use Rattle.spec_listing.specs.Listing.{parasite}
use Rattle.spec_listing.specs.Parasites.{kept_names, property_names}

-- one more, behind those that were there before
pub value_more : {A : Type 0} (of : A → Data) (front : List Data) (values more : List Value) (v : Value) (xs : List A) (i : ℕ) (d : A)
    → i < length xs → map view values ≡ front ++ map of (take i xs) → view v ≡ of (get_or xs i d) → more ≡ values ++ v ∷ []
    → map view more ≡ front ++ map of (take (i + 1) xs)
value_more of front values more v xs i d within so_far seen is =
    ap (map view) is
    ∙ (map_push view values v
    ∙ ((λ j. so_far j ++ seen j ∷ [])
    ∙ (append_assoc front (map of (take i xs)) (of (get_or xs i d) ∷ [])
    ∙ ap (λ ds. front ++ ds) (sym (map_more of xs i d within)))))

-- the parasites of one more property
pub property_more : (values more : List Data) (ks : List Kept) (i : ℕ) (d : Kept) → i < length ks
    → values ≡ map parasite (kept_names (take i ks)) → more ≡ values ++ map parasite (property_names (get_or ks i d))
    → more ≡ map parasite (kept_names (take (i + 1) ks))
property_more values more ks i d within so_far is =
    is
    ∙ (ap (λ ds. ds ++ map parasite (property_names (get_or ks i d))) so_far
    ∙ (sym (map-append parasite (kept_names (take i ks)) (property_names (get_or ks i d)))
    ∙ (ap (map parasite) (flat_map_more property_names [] (take i ks) (get_or ks i d))
    ∙ ap (λ l. map parasite (kept_names l)) (sym (take_more ks i d within)))))
