use Rattle.std.proofs.Common.{ℕ, ◌+◌, ◌-◌, ◌<◌, ◌≤◌, List, [], ◌∷◌, length, take, get_or, drop, refl}
use Rattle.traces.specs.declared.page.Page.{Page}
use Rattle.traces.specs.declared.text.Cell.{Cell}
use Rattle.traces.specs.declared.text.Cell.TheVariants.{Decimal}
use Rattle.traces.specs.Pages.{Room, Wrote}
use Rattle.traces.specs.Tables.{cell_text, spaced, spaced_text, joined_text}
use Rattle.traces.proofs.Pages.{room_first, room_next, room_turn, wrote_both, wrote_turn, wrote_end}
use Rattle.traces.proofs.Writing.{joined_parts}
use Rattle.traces.proofs.page.Page.put_cells.Goals as goal

-- the cells after the first
abbrev others : List Cell → List Cell
others cells = take (length cells - 1) (drop 1 cells)

-- the first cell is written, and i more
module _ (cells : List Cell) (some : 1 ≤ length cells) (p s q : Page) (i : ℕ) (room : Room (joined_text cells) p)
    (first : Wrote (cell_text (get_or cells 0 (Decimal 0))) p s) (sofar : Wrote (spaced_text (take i (others cells))) s q) where
  left : Room (spaced_text (others cells)) s
  left = room_next _ (spaced_text (others cells)) (joined_parts cells (Decimal 0) some) room first

  all : length (others cells) ≤ i → Wrote (joined_text cells) p q
  all past = wrote_both _ _ (joined_parts cells (Decimal 0) some) room first (wrote_end spaced (others cells) i left sofar past)

  module _ (here : i < length (others cells)) where
    turn : Room (spaced (get_or (others cells) i (Decimal 0))) q
    turn = room_turn spaced (others cells) i left sofar (Decimal 0) here

    for_space : Room (32 ∷ []) q
    for_space = room_first _ (cell_text (get_or (others cells) i (Decimal 0))) refl turn

    for_cell : (r : Page) → Wrote (32 ∷ []) q r → Room (cell_text (get_or (others cells) i (Decimal 0))) r
    for_cell r space = room_next _ _ refl turn space

    more : (r t : Page) → Wrote (32 ∷ []) q r → Wrote (cell_text (get_or (others cells) i (Decimal 0))) r t → Wrote (spaced_text (take (i + 1) (others cells))) s t
    more r t space cell = wrote_turn spaced (others cells) i left sofar (Decimal 0) here (wrote_both _ _ refl turn space cell)

pub put_text-requires : goal.put_text-requires
put_text-requires c = for_space c.args.cells.now c.in-len1-up.len_at_least _ _ _ _ c.requires c.put_cell.ensures c.loop-cell.invariant c.loop-cell-test.true

pub put_cell-requires-in-loop-cell : goal.put_cell-requires-in-loop-cell
put_cell-requires-in-loop-cell c =
    for_cell c.args.cells.now c.in-len1-up.len_at_least _ _ _ _ c.requires c.put_cell.ensures c.loop-cell.invariant c.loop-cell-test.true _ c.put_text.ensures

pub loop-cell-preserved : goal.loop-cell-preserved
loop-cell-preserved c =
    more c.args.cells.now c.in-len1-up.len_at_least _ _ _ _ c.requires c.put_cell.ensures c.loop-cell.invariant c.loop-cell-test.true _ _ c.put_text.ensures c.put_cell-in-loop-cell.ensures

pub returns : goal.returns
returns c = all c.args.cells.now c.in-len1-up.len_at_least _ _ _ _ c.requires c.put_cell.ensures c.loop-cell.invariant c.loop-cell-test.false
