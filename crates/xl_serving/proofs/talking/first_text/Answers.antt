use Rattle.std.proofs.Common.{ℕ, ap, ◌∙◌, sym, append-nil}
use Rattle.spec_document.specs.Ids.{next_id}
use Rattle.spec_serve.specs.Said.{ready_line, ready_text}
use Rattle.xl_serving.proofs.talking.first_text.Goals as goal

pub returns : goal.returns
returns c =
    let d = c.args.document.now in
    ap (λ v. v.items) c.into_bytes.ensures.value ∙ c.in_ok-line.ensures
    ∙ ap (λ (n : ℕ). ready_text c.width.result c.height.result n) c.next_id_of-next.ensures.next
    ∙ ap (λ (n : ℕ). ready_text n c.height.result (next_id d)) c.width.ensures
    ∙ ap (λ (n : ℕ). ready_text d.width n (next_id d)) c.height.ensures ∙ sym (append-nil (ready_line d))
