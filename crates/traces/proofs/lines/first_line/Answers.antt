use Rattle.std.proofs.Common.{refl, inl, inr, arith}
use Rattle.std.proofs.lemmas.List.{take_rest, length-drop, length-take-le}
use Rattle.traces.proofs.Cuts.{first_whole, first_unsound}
use Rattle.traces.proofs.lines.first_line.Goals as goal

pub returns-in_err-end : goal.returns-in_err-end
returns-in_err-end c = rw c.from_residual.ensures (first_unsound c.args.text.now _ refl (inl c.in_err-end.ensures))

pub returns-then-end-gt-LINE_BYTES : goal.returns-then-end-gt-LINE_BYTES
returns-then-end-gt-LINE_BYTES c = first_unsound c.args.text.now c.in_ok-end.end c.in_ok-end.ensures.0 (inr c.if-end-gt-LINE_BYTES.true)

pub returns : goal.returns
returns c =
    let s = c.args.text.now in
    let i = c.in_ok-end.end in
    simp take_rest (
      first_whole s i c.in_ok-end.ensures.0 c.in_ok-end.ensures.1,
      omega (arith, length-take-le i s (omega (arith, c.in_ok-end.ensures.1))),
      simp length-drop (omega (arith, c.in_ok-end.ensures.1)),
    )
