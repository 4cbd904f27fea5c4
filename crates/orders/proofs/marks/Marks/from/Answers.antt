use Rattle.std.proofs.Common.{◌≡◌, ◌≢◌, ℕ, ◌+◌, ◌/◌, ◌^◌, ◌<◌, List, Option, length, get_or, sym, subst, MatchOption, Bor, rules, tests}
use Rattle.std.specs.List.{AllWithin, HoldsAt}
use Rattle.std.proofs.lemmas.Iterator.{YieldsList-from_slice, first_from_find}
use Rattle.std.proofs.lemmas.Iterator.Adapters.{YieldsList-from_skip}
use Rattle.std.proofs.lemmas.Iterator.Consumers.{YieldsList-from_enumerate}
use Rattle.orders.specs.Bits.{NoneMarked, FirstMarked}
use Rattle.orders.proofs.Digits.{part_first, part_none, later_words, later_none, later_first}
use Rattle.orders.proofs.marks.Marks.from.Goals as goal

pub returns-then-part-ne0 : goal.returns-then-part-ne0
returns-then-part-ne0 c =
    let ws = c.args.self.now.words in
    let p = c.args.p in
    let f : get_or ws (p / 64) 0 < 2 ^ 64 = search rules in
    part_first ws p c.requires f c.if-part-ne0.true

-- what the search over the later words finds
abbrev Finds : List ℕ → ℕ → Option (ℕ × Bor ℕ) → Type 0
Finds ws p r = MatchOption r (AllWithin (λ (y : ℕ × ℕ). y.1 ≡ 0) (later_words ws p) 0 (length (later_words ws p)))
    (λ x. (x.1.now ≢ 0) × (i : ℕ) × (i < length (later_words ws p)) × HoldsAt (λ (y : ℕ × ℕ). y ≡ (x.0, x.1.now)) (later_words ws p) i × AllWithin (λ (y : ℕ × ℕ). y.1 ≡ 0) (later_words ws p) 0 i)

pub returns-in_err-word : goal.returns-in_err-word
returns-in_err-word c =
    let ws = c.args.self.now.words in
    let p = c.args.p in
    let f : get_or ws (p / 64) 0 < 2 ^ 64 = search rules in
    let found : Finds ws p c.find.result = first_from_find _ _ c.find.result (λ (y : ℕ × ℕ). y.1 ≢ 0) (λ (y : ℕ × ℕ). y.1 ≡ 0) c.find.ensures.ran
    (YieldsList-from_skip (p / 64 + 1) (YieldsList-from_enumerate (YieldsList-from_slice ws cc) (cc)) (cc)) (λ x q k. search (rules, tests)) (λ x q k. search (rules, tests)) in
    subst (λ (r : Option ℕ). MatchOption r (NoneMarked ws p 256) (FirstMarked ws p)) (sym c.from_residual.ensures)
    (later_none ws p (search rules) c.requires (part_none ws p c.requires f c.if-part-ne0.false) (subst (Finds ws p) c.in_err-word.was found))

pub returns : goal.returns
returns c =
    let ws = c.args.self.now.words in
    let p = c.args.p in
    let f : (i : ℕ) → get_or ws i 0 < 2 ^ 64 = λ i. search rules in
    let found : Finds ws p c.find.result = first_from_find _ _ c.find.result (λ (y : ℕ × ℕ). y.1 ≢ 0) (λ (y : ℕ × ℕ). y.1 ≡ 0) c.find.ensures.ran
    (YieldsList-from_skip (p / 64 + 1) (YieldsList-from_enumerate (YieldsList-from_slice ws cc) (cc)) (cc)) (λ x q k. search (rules, tests)) (λ x q k. search (rules, tests)) in
    let here = subst (Finds ws p) c.in_ok-word.was found in
    later_first ws p (search rules) c.requires (part_none ws p c.requires (f (p / 64)) c.if-part-ne0.false) c.in_ok-word.word c.in_ok-word.whole.now here.1 here.0 here.2 here.3 here.4 f
