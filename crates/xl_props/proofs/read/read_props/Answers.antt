use Rattle.std.proofs.Common.{rules, suc, ◌-◌, length, refl, sym, arith}
use Rattle.spec_fields.proofs.FieldsBack.{word_back}
use Rattle.xl_props.proofs.Front.{start, step, no_list, ended, faulty, known_is, kept_are}
use Rattle.xl_props.proofs.read.read_props.Goals as goal

pub loop-count-init : goal.loop-count-init
loop-count-init c =
    let word = word_back c.args.bytes.now c.args.at _ (sym c.in_ok-u32_at.ensures) in
    start c.args.bytes.now c.args.owner c.args.at c.nothing-props.result (omega (arith, word.fits))
    (c.nothing-props.ensures c.args.owner)

pub returns-in_err-u32_at-clause-read : goal.returns-in_err-u32_at-clause-read
returns-in_err-u32_at-clause-read c =
    let fault = no_list c.args.bytes.now c.args.owner c.args.at c.in_err-u32_at.field-0.0 (sym c.in_err-u32_at.ensures) in
    search rules

pub returns-in_err-next_property-clause-read : goal.returns-in_err-next_property-clause-read
returns-in_err-next_property-clause-read c =
    let room = 1023 - c.loop-count._count in
    let fault = faulty c.args.bytes.now c.args.owner c.args.at c.loop-count._count
    (suc room) c.len.result c.loop-count.props c.in_err-next_property.field-0.0 c.loop-count.invariant
    (omega arith) c.len.ensures
    (c.in_err-next_property.ensures.goes_on room) in
    search rules

pub returns-in-None-clause-read : goal.returns-in-None-clause-read
returns-in-None-clause-read c =
    let none = rw c.in-None.is at c.in_ok-next_property.ensures.goes_on in
    let room = 1023 - c.loop-count._count in
    ended c.args.bytes.now c.args.owner c.args.at c.loop-count._count
    (suc room) c.len.result c.loop-count.props c.loop-count.invariant (omega arith) c.len.ensures (none room)

pub returns-in-None-clause-known : goal.returns-in-None-clause-known
returns-in-None-clause-known c =
    known_is c.args.bytes.now c.args.owner c.args.at c.loop-count._count c.loop-count.props c.loop-count.invariant

pub returns-in-None-clause-kept : goal.returns-in-None-clause-kept
returns-in-None-clause-kept c =
    kept_are c.args.bytes.now c.args.owner c.args.at c.loop-count._count c.loop-count.props c.loop-count.invariant

pub loop-count-preserved : goal.loop-count-preserved
loop-count-preserved c =
    let some = rw c.in-Some.is at c.in_ok-next_property.ensures.goes_on in
    let room = rw c.in-Some.is at c.in_ok-next_property.ensures.room in
    let fits = rw c.in-Some.is at c.in_ok-next_property.ensures.fits in
    let checked = rw c.in-Some.is at c.in_ok-next_property.ensures.checked in
    step c.args.bytes.now c.args.owner c.args.at c.loop-count._count c.len.result c.in-Some.kind c.in-Some.payload.now
    c.loop-count.props c.add.new.props c.loop-count.invariant
    (omega arith) c.len.ensures some room (omega (arith, fits)) checked c.in_ok-add-in-Some.ensures

pub returns-clause-read : goal.returns-clause-read
returns-clause-read c =
    ended c.args.bytes.now c.args.owner c.args.at c.loop-count._count 0
    (length c.loop-count.props.kept) c.loop-count.props c.loop-count.invariant (omega arith) refl
    (c.in_ok-end_of_full.ensures.read (256 - length c.loop-count.props.kept) c.args.owner)

pub returns-clause-known : goal.returns-clause-known
returns-clause-known c =
    known_is c.args.bytes.now c.args.owner c.args.at c.loop-count._count c.loop-count.props c.loop-count.invariant

pub returns-clause-kept : goal.returns-clause-kept
returns-clause-kept c =
    kept_are c.args.bytes.now c.args.owner c.args.at c.loop-count._count c.loop-count.props c.loop-count.invariant
