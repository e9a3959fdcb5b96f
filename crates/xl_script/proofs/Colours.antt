-- The colours that a line sets.
use Rattle.std.proofs.Common.{◌≡◌, ◌∙◌, ℕ, Bool, true, false, List, refl, ap}
use Rattle.std.specs.Prelude.{Option, Some, None, option_map}
use Rattle.spec_edit.specs.Edit.{Edit, set_colours}
use Rattle.spec_script.specs.Words.{◌>>=◌, if_holds, one, hex}
use Rattle.spec_script.specs.Commands.{are_colours, an_edit, edit_of, colours_rule}
use Rattle.xl_words.specs.Causes.{colour_bytes}

made_of : (o : Option (List ℕ)) (make : List ℕ → Edit)
    → (o >>= λ bytes. if_holds (are_colours bytes) (make bytes)) ≡ option_map make (o >>= λ bytes. if_holds (are_colours bytes) bytes)
made_of None make = refl
made_of (Some bytes) make = by (are_colours bytes)
  where
    by : (b : Bool) → if_holds b (make bytes) ≡ option_map make (if_holds b bytes)
    by true = refl
    by false = refl

rule_is : (words : List (List ℕ)) (word : List ℕ) → one words ≡ Some word
    → colours_rule words ≡ edit_of (option_map set_colours (colour_bytes word))
rule_is words word e = rw e (ap edit_of (made_of (hex word) set_colours))

pub colours_set : (words : List (List ℕ)) (word bytes : List ℕ) → one words ≡ Some word → colour_bytes word ≡ Some bytes
    → colours_rule words ≡ Some (an_edit (set_colours bytes))
colours_set words word bytes e is = rule_is words word e ∙ ap (λ o. edit_of (option_map set_colours o)) is

pub no_colours : (words : List (List ℕ)) (word : List ℕ) → one words ≡ Some word → colour_bytes word ≡ None → colours_rule words ≡ None
no_colours words word e is = rule_is words word e ∙ ap (λ o. edit_of (option_map set_colours o)) is
