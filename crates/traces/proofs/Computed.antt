-- The example, computed.
use Rattle.std.proofs.Common.{[], ◌∷◌, codes, refl, arith}
use Rattle.traces.specs.declared.table.ColumnOrder.TheVariants.{KeyCost}
use Rattle.traces.specs.Example.{ExampleReads, ExamplePrints}
use Rattle.traces.specs.Forms.{reading}
use Rattle.traces.specs.Reports.{run_text}
use Rattle.traces.specs.Tables.{numeral_of}

pub example_prints : ExamplePrints
unfolding run_text numeral_of
example_prints = refl

pub example_reads : ExampleReads
unfolding reading
example_reads =
    record {
      order = KeyCost;
      digits = codes "2";
      texts =
          record { fore = codes "A"; aft = codes "3" } ∷ record { fore = codes "B"; aft = codes "1" } ∷ record { fore = codes "A"; aft = codes "3" }
          ∷ record { fore = codes "C"; aft = codes "2" } ∷ record { fore = codes "B"; aft = codes "1" } ∷ [];
      is = refl;
      slots_are = refl;
      rows_are = ((refl, refl), ((refl, refl), ((refl, refl), ((refl, refl), ((refl, refl), tt)))));
      few = omega arith;
    }
