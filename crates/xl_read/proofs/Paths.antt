-- The rule of an item path, and a node that is put where it leads.
use Rattle.std.proofs.Common.{◌≡◌, ℕ, ◌<◌, ◌≤◌, true, false, List, length, refl, sym, ◌∙◌, ap, arith}
use Rattle.std.specs.Prelude.{Option, Some, None, is_some, nat_lt, Ok, Err}
use Rattle.std.proofs.lemmas.Bool.{lt-ltb, le-ltb}
use Rattle.spec_document.specs.Forest.{none}
use Rattle.spec_document.specs.Changes.{put_last}
use Rattle.spec_document.specs.Document.{Document, Nodes}
use Rattle.spec_fields.specs.declared.Kind.TheVariants.{BadPath}
use Rattle.spec_fields.specs.declared.ReadRefused.{ReadRefused}
use Rattle.spec_fields.specs.Reading.{◌>>=◌, fault, wants, given}
use Rattle.spec_fields.proofs.Steps.{pass, there}
use Rattle.spec_file.specs.Placing.{path_to, place_of}
use Rattle.spec_file.specs.Layers.{Head, placed, path_of}
use Rattle.xl_doc.specs.declared.node.Node.{Node}
use Rattle.xl_read.specs.Draft.{branch_of, Places}
use Rattle.spec_document.specs.declared.numbers.TheConstants.{ITEM_PATH}

-- what follows where there is something, and where there is not
given_some : {A : Type 0} (o : Option A) (refused : ReadRefused) (make : A → Document) → is_some o ≡ true
    → ((given o refused >>= (λ x. Ok (make x))) >>= (λ _. Ok (tt {0}))) ≡ Ok (tt {0})
given_some None refused make e = cc
given_some (Some x) refused make e = refl

given_none : {A : Type 0} (o : Option A) (refused : ReadRefused) (make : A → Document) → is_some o ≡ false
    → ((given o refused >>= (λ x. Ok (make x))) >>= (λ _. Ok (tt {0}))) ≡ Err refused
given_none None refused make e = refl
given_none (Some x) refused make e = cc

module _ (d : Document) (h : Head) where
  pub leads : (path : List ℕ) → path ≡ path_to h.props.list → length path < 8 → is_some (put_last path none d.nodes) ≡ true
      → Ok tt ≡ path_of d h
  unfolding path_of placed
  leads path is short e =
      let here : is_some (put_last (path_to h.props.list) none d.nodes) ≡ true =
      ap (λ p. is_some (put_last p none d.nodes)) (sym is) ∙ e in
      let low : length (path_to h.props.list) < 8 = omega (arith, short, ap length is) in
      sym (pass (nat_lt (length (path_to h.props.list)) 8) (fault BadPath (place_of ITEM_PATH h.props.list)) _
      (lt-ltb (length (path_to h.props.list)) 8 low)
      ∙ given_some (put_last (path_to h.props.list) none d.nodes) (fault BadPath (place_of ITEM_PATH h.props.list))
      (λ nodes. record d { nodes = nodes }) here)

  pub leads_not : (path : List ℕ) (place : ℕ) (refused : ReadRefused) → path ≡ path_to h.props.list
      → place ≡ place_of ITEM_PATH h.props.list → refused ≡ fault BadPath place
      → length path < 8 → is_some (put_last path none d.nodes) ≡ false → Err refused ≡ path_of d h
  unfolding path_of placed
  leads_not path place refused is place_is refused_is short e =
      let here : is_some (put_last (path_to h.props.list) none d.nodes) ≡ false =
      ap (λ p. is_some (put_last p none d.nodes)) (sym is) ∙ e in
      let low : length (path_to h.props.list) < 8 = omega (arith, short, ap length is) in
      ap Err (refused_is ∙ ap (fault BadPath) place_is)
      ∙ sym (pass (nat_lt (length (path_to h.props.list)) 8) (fault BadPath (place_of ITEM_PATH h.props.list)) _
      (lt-ltb (length (path_to h.props.list)) 8 low)
      ∙ given_none (put_last (path_to h.props.list) none d.nodes) (fault BadPath (place_of ITEM_PATH h.props.list))
      (λ nodes. record d { nodes = nodes }) here)

  pub long_not : (path : List ℕ) (place : ℕ) (refused : ReadRefused) → path ≡ path_to h.props.list
      → place ≡ place_of ITEM_PATH h.props.list → refused ≡ fault BadPath place
      → 8 ≤ length path → Err refused ≡ path_of d h
  unfolding path_of
  long_not path place refused is place_is refused_is long =
      let high : 8 ≤ length (path_to h.props.list) = omega (arith, long, ap length is) in
      ap Err (refused_is ∙ ap (fault BadPath) place_is)
      ∙ sym (ap (λ b. wants b (fault BadPath (place_of ITEM_PATH h.props.list)) >>= (λ _. placed d h none >>= (λ _. Ok tt)))
      (le-ltb (length (path_to h.props.list)) 8 high))

  -- a node that was put where the path leads
  pub placed_is : (new : Document) (node : Node) (path : List ℕ) (branch : Nodes) → Places path node d new
      → path ≡ path_to h.props.list → branch_of d node ≡ branch → placed d h branch ≡ Ok new
  unfolding placed
  placed_is new node path branch places here is =
      let put : put_last (path_to h.props.list) branch d.nodes ≡ Some new.nodes = (λ i. put_last (sym here i) (sym is i) d.nodes)
      ∙ places.put in
      there (put_last (path_to h.props.list) branch d.nodes) (fault BadPath (place_of ITEM_PATH h.props.list)) new.nodes _ put
      ∙ ap Ok (sym places.others)
