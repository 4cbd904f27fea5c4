use Rattle.std.proofs.Common.{◌≡◌, ℕ, ◌+◌, length, vec_items, take, sym, ap, ◌∙◌, arith}
use Rattle.std.proofs.lemmas.List.{take_rest, length-drop}
use Rattle.forecasts.specs.Table.{row_of, refusal}
use Rattle.forecasts.specs.declared.fault.Reason.TheVariants.{Unended}
use Rattle.forecasts.proofs.Tables.{line_refused, line_row, line_long, rest_unended, rest_none}
use Rattle.forecasts.proofs.table.read_lines.Goals as goal

pub returns-in-Err : goal.returns-in-Err
returns-in-Err c =
    let v = c.loop-end.rows in
    let why = c.in-Err.reason in
    let count : length (vec_items v) ≡ c.len-line.result = sym (c.len-line.ensures ∙ v.ok.0) in
    line_refused c.args.text.now c.loop-end.rest.now (vec_items v) c.loop-end.invariant.0 c.in-Some.end c.in-Some.ensures why
    (c.in-Err.ensures ∙ ap (λ rs. row_of rs (take c.in-Some.end c.loop-end.rest.now)) c.as_slice.ensures.value)
    ∙ ap (λ (n : ℕ). refusal (n + 2) why) count

pub loop-end-preserved : goal.loop-end-preserved
loop-end-preserved c =
    let text = c.args.text.now in
    let rest = c.loop-end.rest.now in
    let end = c.in-Some.end in
    let v = c.loop-end.rows in
    let told = c.in-Ok.ensures ∙ ap (λ rs. row_of rs (take end rest)) c.as_slice.ensures.value in
    let a = line_row text rest (vec_items v) c.loop-end.invariant.0 end c.in-Some.ensures c.in-Ok.row told in
    let l = line_long text rest (vec_items v) c.loop-end.invariant.0 end c.in-Some.ensures c.in-Ok.row told in
    let cut = take_rest rest (end + 1) in
    let long = length-drop (end + 1) rest in
    let items = c.push_reserved.ensures.items in
    let len = c.push_reserved.ensures.len in
    let cap = c.push_reserved.ensures.capacity in
    (rw (items, cut) a, rw cut (omega (arith, c.loop-end.invariant.1, c.in-Some.ensures.0, len, l, long)), cap ∙ c.loop-end.invariant.2)

pub returns-then-not-is_empty : goal.returns-then-not-is_empty
returns-then-not-is_empty c =
    let v = c.loop-end.rows in
    let count : length (vec_items v) ≡ c.len.result = sym (c.len.ensures ∙ v.ok.0) in
    rest_unended c.args.text.now c.loop-end.rest.now (vec_items v) c.loop-end.invariant.0 c.in_default.ensures (sym c.if-not-is_empty.ensures)
    ∙ ap (λ (n : ℕ). refusal (n + 2) Unended) count

pub returns : goal.returns
returns c = rest_none c.args.text.now c.loop-end.rest.now (vec_items c.loop-end.rows) c.loop-end.invariant.0 c.in_default.ensures (sym c.if-not-is_empty.ensures)
