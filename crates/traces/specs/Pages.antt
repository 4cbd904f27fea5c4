-- A buffer that is written from its front on.
use Rattle.std.specs.Prelude.{◌≡◌, ℕ, ◌+◌, ◌≤◌, List, length}
use Rattle.traces.specs.declared.page.Page.{Page}
use Rattle.traces.specs.Tables.{placed}

-- there is room for a text after what is written
pub record Room (text : List ℕ) (page : Page) : Type 0 where
  pub fits : page.at + length text ≤ length page.out.now

-- a text is written next, into the same buffer, which else is as it was
pub record Wrote (text : List ℕ) (before after : Page) : Type 0 where
  pub same_buffer : after.out.ghost_name ≡ before.out.ghost_name
  pub place : after.at ≡ before.at + length text
  pub bytes : after.out.now ≡ placed before.at text before.out.now
