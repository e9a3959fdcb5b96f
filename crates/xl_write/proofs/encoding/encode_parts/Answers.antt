use Rattle.std.proofs.Common.{◌≡◌, ◌∙◌, ◌-◌, ◌*◌, ◌++◌, List, ℕ, length, take, drop, ap, subst, arith}
use Rattle.std.proofs.lemmas.Result.{IfOk-weaker}
use Rattle.spec_hierarchy.specs.Layout.{words}
use Rattle.spec_layout.proofs.AnyCoder.{any_coder}
use Rattle.xl_layout.proofs.Short.{held, read}
use Rattle.xl_write.specs.Appended.{AllAppended}
use Rattle.xl_write.proofs.Whole.{begins_at, words_fit, file_finished}
use Rattle.xl_write.proofs.encoding.encode_parts.Goals as goal

pub put_all-requires-clause-begin : goal.put_all-requires-clause-begin
put_all-requires-clause-begin g c =
    let front : List ℕ = c.in_ok-front.front.items in
    let appended : c.append.new.self ≡ front = c.in_ok-append.ensures.ok ∙ (λ i. c.new.ensures i ++ c.as_slice.ensures.value i) in
    ap length appended
    ∙ begins_at c.args.doc.now front c.pointer_count-pointers.result c.pointer_count-pointers.ensures.value c.in_ok-front.ensures

pub finish-requires : goal.finish-requires
finish-requires g c =
    let front : List ℕ = c.in_ok-front.front.items in
    let appended : c.append.new.self ≡ front = c.in_ok-append.ensures.ok ∙ (λ i. c.new.ensures i ++ c.as_slice.ensures.value i) in
    let d = c.args.doc.now in
    let all = subst (λ old. AllAppended g.C.PlaneCoder.fits d old c.put_all.new.unfinished.bytes c.put_all.new.unfinished.begins.items)
    appended c.in_ok-put_all.ensures.all in
    let fit = words_fit g.C.PlaneCoder.fits d front c.put_all.new.unfinished.bytes c.put_all.new.unfinished.begins.items
    c.pointer_count-pointers.result c.pointer_count-pointers.ensures.value c.in_ok-front.ensures all in
    omega (arith, fit.0, fit.1, ap length c.as_mut_slice.ensures.value)

pub returns-clause-written : goal.returns-clause-written
returns-clause-written g c =
    let front : List ℕ = c.in_ok-front.front.items in
    let appended : c.append.new.self ≡ front = c.in_ok-append.ensures.ok ∙ (λ i. c.new.ensures i ++ c.as_slice.ensures.value i) in
    let d = c.args.doc.now in
    let bytes : List ℕ = c.put_all.new.unfinished.bytes in
    let begins : List ℕ = c.put_all.new.unfinished.begins.items in
    let all = subst (λ old. AllAppended g.C.PlaneCoder.fits d old bytes begins) appended c.in_ok-put_all.ensures.all in
    IfOk-weaker c.finish.result _ _ (λ file is.
    file_finished g.C.PlaneCoder.fits d front bytes file begins c.pointer_count-pointers.result
    c.pointer_count-pointers.ensures.value c.in_ok-front.ensures all
    (subst (λ (first : List ℕ). file ≡ (take (length first - 4 * length begins) first ++ words begins) ++ drop (length first) bytes)
    c.as_mut_slice.ensures.value is)) c.finish.ensures

pub returns-clause-held : goal.returns-clause-held
returns-clause-held g c =
    IfOk-weaker c.finish.result _ _ (λ file written.
    held file c.args.doc.now (any_coder g.C.PlaneCoder.fits file c.args.doc.now written) c.know_limits.ensures)
    (returns-clause-written g c)

pub returns-clause-read : goal.returns-clause-read
returns-clause-read g c =
    IfOk-weaker c.finish.result _ _ (λ file written.
    read file c.args.doc.now (any_coder g.C.PlaneCoder.fits file c.args.doc.now written) c.know_limits.ensures)
    (returns-clause-written g c)
