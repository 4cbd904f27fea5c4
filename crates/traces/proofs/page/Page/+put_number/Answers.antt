use Rattle.std.proofs.Common.{◌≡◌, ℕ, ◌/◌, ◌%◌, ◌<◌, ◌≤◌, [], ◌∷◌, ◌++◌, sym, ap, ◌∙◌, arith}
use Rattle.traces.specs.Tables.{glyph_of, numeral_of}
use Rattle.traces.proofs.Pages.{room_is, room_first, room_next, wrote_is, wrote_both}
use Rattle.traces.proofs.Writing.{numeral_small, numeral_step, div_less}
use Rattle.traces.proofs.page.Page.+put_number.Goals as goal

small : (b n x : ℕ) → 2 ≤ b → n < b → x ≡ glyph_of n → numeral_of b n ≡ x ∷ []
small b n x two h e = numeral_small b n two h ∙ ap (λ y. y ∷ []) (sym e)

step : (b n x : ℕ) → 2 ≤ b → b ≤ n → x ≡ glyph_of (n % b) → numeral_of b (n / b) ++ (x ∷ []) ≡ numeral_of b n
step b n x two h e = ap (λ y. numeral_of b (n / b) ++ (y ∷ [])) e ∙ sym (numeral_step b n two h)

pub put_text-requires : goal.put_text-requires
put_text-requires t c = room_is (small c.args.base c.args.n _ c.requires.low c.if-n-base.true c.glyph.ensures) c.requires.room

pub returns-then-n-base : goal.returns-then-n-base
returns-then-n-base t c = wrote_is (sym (small c.args.base c.args.n _ c.requires.low c.if-n-base.true c.glyph.ensures)) c.put_text.ensures

pub put_number-requires : goal.put_number-requires
put_number-requires t c = (
  omega (arith, div_less c.args.base c.args.n c.requires.low c.if-n-base.false, c.decreases),
  (c.requires.low, (c.requires.high, room_first _ _ (sym (numeral_step c.args.base c.args.n c.requires.low c.if-n-base.false)) c.requires.room)),
)

pub put_text-requires-2 : goal.put_text-requires-2
put_text-requires-2 t c = room_next _ _ (step c.args.base c.args.n c.glyph-2.result c.requires.low c.if-n-base.false c.glyph-2.ensures) c.requires.room c.put_number.ensures

pub returns : goal.returns
returns t c = wrote_both _ _ (step c.args.base c.args.n c.glyph-2.result c.requires.low c.if-n-base.false c.glyph-2.ensures) c.requires.room c.put_number.ensures c.put_text-2.ensures
