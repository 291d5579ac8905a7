-- What the code's tags stand for, and the kept values.
use Rattle.std.specs.Prelude.{◌≡◌, ℕ, ◌≤◌, Option, Some}
use Rattle.gl_arena.specs.Id.{Id}
use Rattle.gl_arena.specs.Arena.{Arena, named}
use Rattle.gl_arena.specs.Mapped.{mapped}
use Rattle.gl_tags.specs.Tags as m
use Rattle.gl_tags.specs.declared.tag.Tag.{Tag}
use Rattle.gl_tags.specs.declared.tag.Tag.TheVariants.{Constant, Dirtyable, Combined}
use Rattle.gl_tags.specs.declared.tag.Touch.{Touch}

-- without what is kept
abbrev pub seen_tag : Tag → m.Tag
seen_tag Constant = m.constant
seen_tag (Dirtyable t) = m.dirtyable t.revision t.order
seen_tag (Combined leads kept mark) = m.combined leads.items

abbrev pub tags_in : Arena Tag → Arena m.Tag
tags_in a = mapped seen_tag a

-- when a tag was touched last, by its value and its order
abbrev pub touch_of : Arena m.Tag → Option m.Tag → Touch
touch_of a t = record { revision = m.value_by m.revision a t; order = m.value_by m.order a t }

-- a kept touch that is marked with the present count is the greatest
abbrev pub IsKept : Arena m.Tag → ℕ → Option Tag → Type 0
IsKept a count (Some (Combined leads kept mark)) = (mark ≤ count) × (mark ≡ count → kept ≡ touch_of a (Some (m.combined leads.items)))
IsKept a count _ = Unit {0}

-- a combined tag with another kept touch
abbrev pub kept_as : Tag → Touch → ℕ → Tag
kept_as (Combined leads kept mark) touch count = Combined leads touch count
kept_as Constant touch count = Constant
kept_as (Dirtyable t) touch count = Dirtyable t

-- what the code's tags keep
pub record AreKept (a : Arena Tag) (still : Id) (clock count : ℕ) : Type 0 where
  pub sound : m.IsSound (record { tags = tags_in a; still = still; clock = clock; count = count })
  pub kept : (i : Id) → IsKept (tags_in a) count (named a i)
