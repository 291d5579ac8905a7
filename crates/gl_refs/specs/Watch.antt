-- Which positions may have read something that was touched since the turn began, told by the numbers of their ids.
use Rattle.std.specs.Prelude.{◌≡◌, ℕ, ◌^◌, ◌-◌, Bool, true, not, ◌&&◌, ◌||◌, ltb, List, Option, Some, None, option_map, slice_index_or}
use Rattle.gl_arena.specs.Id.{Id}
use Rattle.gl_tags.specs.Tags as t
use Rattle.gl_refs.specs.Forms.{Form, all_form, Each}
use Rattle.gl_refs.specs.State.{Last, Row, Rows}
use Rattle.gl_refs.specs.declared.watch.Span.{Span}
use Rattle.gl_refs.specs.declared.watch.Hot.{Hot}
use Rattle.gl_refs.specs.declared.watch.Watch.{Watch}

-- the number stands in a span
abbrev pub within : Span → ℕ → Bool
within s n = not (ltb n s.low) && not (ltb s.high n)

-- a span without numbers
abbrev pub never : Span
never = record { low = 2 ^ 64 - 1; high = 0 }

-- the span of a dirtyable tag, by its place
abbrev pub span_at : List Span → ℕ → Span
span_at spans p = slice_index_or spans p never

abbrev pub hot_in : Hot → ℕ → Bool
hot_in h n = within h.first n || (within h.second n || (within h.third n || within h.rest n))

-- the position with this number may have read what was touched since the turn began
abbrev pub is_hot : Watch → ℕ → Bool
is_hot w n = w.lost || hot_in w.hot n

-- the position with this number may have read what has a tag at this place
abbrev pub covers : Watch → ℕ → ℕ → Bool
covers w p n = w.lost || within (span_at w.spans.items p) n

-- the tag of the last evaluation of a position
abbrev pub placed_by : Form → Option Last → Option Id
placed_by (all_form ids) l = option_map (λ x. x.tag) l
placed_by g l = None

abbrev pub placed_tag : Row → Option Id
placed_tag r = placed_by r.form r.last

-- Each position is covered at the tags to which its last evaluation leads, and where one of them was touched in this turn it is hot.
pub record Watched (tags : t.Tags) (rows : Rows) (w : Watch) : Type 0 where
  pub led : (i u : Id) (r : Row) → rows i ≡ Some r → placed_tag r ≡ Some u → Each (λ d. covers w d.0 i.1 ≡ true) (t.leads_of tags.tags u)
  pub hot : (i u : Id) (r : Row) → rows i ≡ Some r → placed_tag r ≡ Some u → t.value_of tags u ≡ tags.clock → is_hot w i.1 ≡ true

-- all that was covered is so, and all that was hot
pub record Widens (old new : Watch) : Type 0 where
  pub covers : (p n : ℕ) → covers old p n ≡ true → covers new p n ≡ true
  pub hot : (n : ℕ) → is_hot old n ≡ true → is_hot new n ≡ true
