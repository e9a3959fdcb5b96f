use Rattle.std.proofs.Common.{◌≡◌, true, false, length, map, sym, ◌∙◌, ap}
use Rattle.spec_audit.specs.Output.{Output, call_counts}
use Rattle.xl_script.specs.Lines.{lists_of}
use Rattle.xl_printed.specs.Merging.{saves_of, merges}
use Rattle.xl_printed.proofs.Shaping.{counts_are, no_output, no_merge, is_output}
use Rattle.xl_printed.proofs.shape.read_shaped.Goals as goal

pub returns-in_default : goal.returns-in_default
returns-in_default c = λ p shaped.
    let saves : c.as_slice.result.now ≡ saves_of (lists_of c.args.script.now) = c.as_slice.ensures.value ∙ c.in_ok-saves.ensures in
    let counts : c.as_slice-2.result.now ≡ call_counts (lists_of c.args.script.now) =
    c.as_slice-2.ensures.value ∙ c.in_ok-counts.ensures ∙ ap (map length) saves ∙ counts_are (lists_of c.args.script.now) in
    no_output (lists_of c.args.script.now) c.as_slice-2.result.now c.args.text.now p c.requires counts
    (sym c.in_default.is ∙ c.in_ok-output.ensures) shaped

pub returns-then-is_merge : goal.returns-then-is_merge
returns-then-is_merge c =
    let saves : c.as_slice.result.now ≡ saves_of (lists_of c.args.script.now) = c.as_slice.ensures.value ∙ c.in_ok-saves.ensures in
    let counts : c.as_slice-2.result.now ≡ call_counts (lists_of c.args.script.now) =
    c.as_slice-2.ensures.value ∙ c.in_ok-counts.ensures ∙ ap (map length) saves ∙ counts_are (lists_of c.args.script.now) in
    let table : c.as_slice-3.result.now ≡ saves_of (lists_of c.args.script.now) = c.as_slice-3.ensures.value ∙ c.in_ok-saves.ensures in
    let order : c.as_slice-4.result.now ≡ c.in-Some.output.order = c.as_slice-4.ensures.value ∙ ap (λ (o : Output). o.order) c.output.view_is in
    let merge : merges (saves_of (lists_of c.args.script.now)) c.in-Some.output.order ≡ true =
    (λ i. merges (sym table i) (sym order i)) ∙ (sym c.is_merge.ensures ∙ c.if-is_merge.true) in
    is_output (lists_of c.args.script.now) c.as_slice-2.result.now c.args.text.now c.in-Some.output counts
    (sym c.in-Some.is ∙ c.in_ok-output.ensures) merge

pub returns : goal.returns
returns c = λ p shaped.
    let saves : c.as_slice.result.now ≡ saves_of (lists_of c.args.script.now) = c.as_slice.ensures.value ∙ c.in_ok-saves.ensures in
    let counts : c.as_slice-2.result.now ≡ call_counts (lists_of c.args.script.now) =
    c.as_slice-2.ensures.value ∙ c.in_ok-counts.ensures ∙ ap (map length) saves ∙ counts_are (lists_of c.args.script.now) in
    let table : c.as_slice-3.result.now ≡ saves_of (lists_of c.args.script.now) = c.as_slice-3.ensures.value ∙ c.in_ok-saves.ensures in
    let order : c.as_slice-4.result.now ≡ c.in-Some.output.order = c.as_slice-4.ensures.value ∙ ap (λ (o : Output). o.order) c.output.view_is in
    let merge : merges (saves_of (lists_of c.args.script.now)) c.in-Some.output.order ≡ false =
    (λ i. merges (sym table i) (sym order i)) ∙ (sym c.is_merge.ensures ∙ c.if-is_merge.false) in
    no_merge (lists_of c.args.script.now) c.as_slice-2.result.now c.args.text.now p c.in-Some.output c.requires counts
    (sym c.in-Some.is ∙ c.in_ok-output.ensures) merge shaped
