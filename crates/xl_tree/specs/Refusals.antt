-- Why a tree is not changed.
use Rattle.std.specs.Prelude.{ℕ, ◌==◌, ◌||◌, Bool, false, nat_le, if◌then◌else◌, Option, Some, None, option_map}
use Rattle.std.specs.Prelude.{unwrap_or, Result, Ok, Err}
use Rattle.std.specs.List.{list_any}
use Rattle.spec_document.specs.Forest.{Forest, count, Found, nothing, a_leaf, a_group, find, stack_at, ancestors}
use Rattle.spec_document.specs.Changes.{without}
use Rattle.xl_tree.specs.declared.refused.TreeRefused.{TreeRefused}
use Rattle.xl_tree.specs.declared.refused.TreeRefused.TheVariants.{NoNode, NotGroup, Inside, BadPlace}
use Rattle.xl_tree.specs.Places.{first_some}

-- there is no such node
abbrev pub no_node : {L G : Type 0} → (id : ℕ) → Found L G → Option TreeRefused
no_node id nothing = Some (NoNode id)
no_node id (a_leaf node) = None
no_node id (a_group node children) = None

-- what was found is no group
abbrev pub no_group : {L G : Type 0} → (id : ℕ) → Found L G → Option TreeRefused
no_group id nothing = Some (NoNode id)
no_group id (a_leaf node) = Some (NotGroup id)
no_group id (a_group node children) = None

-- there is no such stack
abbrev pub no_stack : {L G : Type 0} → (stack : ℕ) → Forest L G → Option TreeRefused
no_stack stack forest = if stack == 0 then None else no_group stack (find stack forest)

-- so many nodes have no such place
abbrev pub past : (place count : ℕ) → Option TreeRefused
past place count = if nat_le place count then None else Some (BadPlace count)

-- how many nodes are in a stack, and 0 where there is no such
abbrev pub count_at : {L G : Type 0} → (stack : ℕ) → Forest L G → ℕ
count_at stack forest = unwrap_or (option_map count (stack_at stack forest)) 0

-- the stack has no such place
abbrev pub bad_place : {L G : Type 0} → (stack place : ℕ) → Forest L G → Option TreeRefused
bad_place stack place forest = past place (count_at stack forest)

-- nothing can be put at this place of the stack
abbrev pub put_refusal : {L G : Type 0} → (stack place : ℕ) → Forest L G → Option TreeRefused
put_refusal stack place forest = first_some (no_stack stack forest) (bad_place stack place forest)

-- whether a node is the other one or stands below it
abbrev pub stands_in : {L G : Type 0} → Forest L G → (node other : ℕ) → Bool
stands_in forest node other =
    node == other || unwrap_or (option_map (λ above. list_any (λ i. i == other) above) (ancestors node forest)) false

-- the stack is the node that moves, or stands below it
abbrev pub inside : {L G : Type 0} → (id stack : ℕ) → Forest L G → Option TreeRefused
inside id stack forest = if stands_in forest stack id then Some (Inside stack) else None

-- the node cannot be moved to this place of the stack, counted without it
abbrev pub restack_refusal : {L G : Type 0} → (id stack place : ℕ) → Forest L G → Option TreeRefused
restack_refusal id stack place forest =
    first_some (no_node id (find id forest))
    (first_some (no_stack stack forest) (first_some (inside id stack forest) (bad_place stack place (without id forest))))

-- the answer where there is such a refusal, or none
abbrev pub answer_of : Option TreeRefused → Result (Unit {0}) TreeRefused
answer_of None = Ok tt
answer_of (Some refused) = Err refused

-- the same, and the node comes back
abbrev pub answer_with : {N : Type 0} → Option TreeRefused → N → Result (Unit {0}) (TreeRefused × N)
answer_with None node = Ok tt
answer_with (Some refused) node = Err (refused, node)

-- the refusal of an answer, if it is one
abbrev pub refusal_of : {T : Type 0} → Result T TreeRefused → Option TreeRefused
refusal_of (Ok done) = None
refusal_of (Err refused) = Some refused
