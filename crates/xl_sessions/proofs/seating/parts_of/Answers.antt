use Rattle.std.proofs.Common.{◌≡◌, ℕ, List, refl, ap, ◌∙◌, sym, subst, length, arith}
use Rattle.std.specs.Prelude.{Vec}
use Rattle.std.specs.declared.alloc.Global.{Global}
use Rattle.spec_filters.specs.declared.FilterState.{FilterState}
use Rattle.spec_script.specs.Script as script
use Rattle.xl_filters.specs.declared.chest.Slot.{Slot}
use Rattle.xl_script.specs.declared.script.Line.{Line}
use Rattle.xl_sessions.specs.declared.players.SessionPart.{SessionPart}
use Rattle.xl_sessions.proofs.Brought.{ArePartsUpTo, parts_none, parts_below, parts_more, parts_all}
use Rattle.xl_sessions.proofs.seating.parts_of.Goals as goal

with_parts : {B X : Type 0} {H : X → Type 0} {state : B → FilterState} {in_slot : Slot X H → FilterState}
    {lists : List (List script.Line)} {boxes : List (Vec B Global)} {left : List (List Line)}
    {left_boxes : List (Vec B Global)} {session : ℕ} {parts more : List (SessionPart X H)}
    → more ≡ parts → ArePartsUpTo state in_slot lists boxes left left_boxes session parts
    → ArePartsUpTo state in_slot lists boxes left left_boxes session more
with_parts {state = state} {in_slot = in_slot} {lists = lists} {boxes = boxes} {left = left} {left_boxes = left_boxes}
    {session = session} is up = subst (ArePartsUpTo state in_slot lists boxes left left_boxes session) (sym is) up

pub loop-lines-init : goal.loop-lines-init
loop-lines-init g c =
    let left = c.into_iter-lines-iterator.ensures.into_iter_gives.0 in
    parts_none _ _ c.args.script c.into_iter-lines-iterator.result.rest.items c.args.chest.items c.new-parts.result.items
    (left ∙ c.into_lists-lines-items.ensures.lists) (ap length left ∙ c.into_lists-lines-items.ensures.eight)
    c.new-parts.ensures.items c.requires.boxes c.requires.fits

pub first_boxes-boxes-requires : goal.first_boxes-boxes-requires
first_boxes-boxes-requires g c = c.loop-lines.invariant.short

pub loop-lines-preserved : goal.loop-lines-preserved
loop-lines-preserved g c =
    with_parts c.in_ok-push.ensures.items
    (parts_more _ _ c.in-Some.lines c.next.new.self.rest.items c.loop-lines.invariant c.in-Some.ensures.steps.0
    c.first_boxes-boxes.result.items c.first_boxes-boxes.new.chest.items _ _
    c.first_boxes-boxes.ensures.first c.first_boxes-boxes.ensures.others c.first_boxes-boxes.ensures.others_short refl refl
    c.into_items.ensures c.in_ok-desk.ensures)

pub returns-clause-brought : goal.returns-clause-brought
returns-clause-brought g c = c.loop-lines.invariant.brought

pub returns-clause-fit : goal.returns-clause-fit
returns-clause-fit g c = c.loop-lines.invariant.fit_parts

pub returns-clause-eight : goal.returns-clause-eight
returns-clause-eight g c = parts_all _ _ c.loop-lines.invariant
    (omega (arith, c.in-None.ensures.steps.0, c.loop-lines.lines-iterator.rest.ok))

pub overflow_add-session : goal.overflow_add-session
overflow_add-session g c =
    let below = parts_below _ _ c.in-Some.lines c.next.new.self.rest.items c.loop-lines.invariant c.in-Some.ensures.steps.0 in
    omega (arith, below)
