-- References as contracts see them, and what each call does.
use Rattle.std.specs.Prelude.{◌≡◌, ℕ, ◌+◌, ◌<◌, ◌^◌, Bool, true, List, [], ◌∷◌, ◌++◌, Option, Some, None, Result, OnOk, OnErr, refl}
use Rattle.std.specs.Coded.{Coded, code_by, coded×, coded_ℕ, coded_list}
use Rattle.gl_arena.specs.Id.{Id}
use Rattle.gl_arena.specs.Arena.{Arena, arena_code, named, with_value, Gives}
use Rattle.gl_tags.specs.Tags as t
use Rattle.gl_refs.specs.Forms.{V, Form, source_form, Look, Pair, meaning, IsReadFor}
use Rattle.gl_refs.specs.State.{Last, Row, Rows, forms, IsKept, Settles, is_position}
use Rattle.gl_refs.specs.Code.{row_code}

-- The references by id, their tags, how many were evaluated by `evaluate`, how often `valid` was asked, and which ids
-- were evaluated since the last `begin`, in order.
pub record Refs : Type 0 where
  pub rows : Arena Row
  pub tags : t.Tags
  pub evals : ℕ
  pub asks : ℕ
  pub evaluated : List Id

abbrev pub refs_code : Coded Refs
refs_code =
    code_by (Arena Row × (t.Tags × (ℕ × (ℕ × List Id)))) (coded× (arena_code row_code) (coded× t.tags_code (coded× coded_ℕ (coded× coded_ℕ (coded_list (coded× coded_ℕ coded_ℕ))))))
    (λ r. (r.rows, (r.tags, (r.evals, (r.asks, r.evaluated))))) (λ p. record { rows = p.0; tags = p.1.0; evals = p.1.1.0; asks = p.1.1.1.0; evaluated = p.1.1.1.1 }) (λ _. refl)

abbrev pub rows_of : Refs → Rows
rows_of r i = named r.rows i

abbrev pub forms_of : Refs → Look
forms_of r = forms (rows_of r)

-- what a reference means over the present cells and items
abbrev pub meaning_of : Refs → Id → Pair
meaning_of r i = meaning (forms_of r) i

-- each of the counters is below its last value
pub record HasRoom (r : Refs) : Type 0 where
  pub tags : t.HasRoom r.tags
  pub made : r.rows.made + 1 < 2 ^ 64
  pub evals : r.evals + 1 < 2 ^ 128
  pub asks : r.asks + 1 < 2 ^ 128

-- What can be asked whether it is stale: a position that was evaluated, in a turn that was begun, while one question more
-- can be counted.
pub record CanAsk (r : Refs) (id : Id) : Type 0 where
  pub asks : r.asks + 1 < 2 ^ 128
  pub begun : 0 < r.tags.clock
  pub position : is_position (rows_of r id) ≡ true

-- a question that was answered is counted
abbrev pub asks_after : Option Bool → ℕ → ℕ
asks_after None asks = asks
asks_after (Some b) asks = asks + 1

-- nothing is counted, and nothing is put on the list
pub record SameCounts (old new : Refs) : Type 0 where
  pub evals : new.evals ≡ old.evals
  pub asks : new.asks ≡ old.asks
  pub evaluated : new.evaluated ≡ old.evaluated

-- A reference of that form is made, which was not evaluated yet.
pub record Makes (old new : Refs) (id : Id) (form : Form) : Type 0 where
  pub gives : Gives old.rows new.rows id (record { form = form; last = None })
  pub tags : new.tags ≡ old.tags
  pub counts : SameCounts old new

-- a row of a source is put in, with a tag of its own that counts as touched now
pub record GivesSource (old new : t.Tags) (was now : Arena Row) (id : Id) (kind : Bool) (value : V) : Type 0 where
  pub tag : Id
  pub gives : Gives was now id (record { form = source_form kind tag value; last = None })
  pub tagged : Gives old.tags new.tags tag (t.dirtyable old.clock old.count)
  pub rest : t.Rest old new

-- A cell, or an item (true), is made.
pub record MakesSource (old new : Refs) (id : Id) (kind : Bool) (value : V) : Type 0 where
  pub gives : GivesSource old.tags new.tags old.rows new.rows id kind value
  pub counts : SameCounts old new

-- Nothing but tags that no reference has, and their count, changes.
pub record Keeps (old new : Refs) : Type 0 where
  pub rows : new.rows ≡ old.rows
  pub tags : (u : Id) → t.tag_at new.tags u ≡ t.tag_at old.tags u
  pub rest : t.Rest old.tags new.tags
  pub counts : SameCounts old new

-- A cell, or an item (true), has another value, and is touched.
pub record SetsValue (old new : Refs) (id : Id) (kind : Bool) (value : V) : Type 0 where
  pub tag : Id
  pub was : V
  pub last : Option Last
  pub held : rows_of old id ≡ Some (record { form = source_form kind tag was; last = last })
  pub rows : new.rows ≡ with_value old.rows id (record { form = source_form kind tag value; last = last })
  pub tags : new.tags ≡ t.dirtied old.tags tag
  pub counts : SameCounts old new

-- The id names a cell, or an item (true).
pub record Holds (r : Refs) (id : Id) (kind : Bool) (value : V) : Type 0 where
  pub tag : Id
  pub last : Option Last
  pub is : rows_of r id ≡ Some (record { form = source_form kind tag value; last = last })

-- Each reference that is read for id, and id itself, stays or has an evaluation of now that may be used; every other
-- one stays. The forms stay, and so does what may be used.
pub record Reads (old new : Refs) (id : Id) : Type 0 where
  pub settles : Settles (IsReadFor (forms_of old) id) old.tags new.tags (rows_of old) (rows_of new)
  pub made : new.rows.made ≡ old.rows.made
  pub asks : new.asks ≡ old.asks

-- After a read that could be done the reference has an evaluation of now. What had one stays as it was.
pub record HasRead {A E : Type 0} (old new : Refs) (id : Id) (result : Result A E) : Type 0 where
  pub reads : Reads old new id
  pub kept : OnOk result (IsKept new.tags (rows_of new) id)
  pub still : IsKept old.tags (rows_of old) id → new ≡ old
  pub evals : new.evals ≡ old.evals
  pub evaluated : new.evaluated ≡ old.evaluated

-- After an evaluation that could be done, it is counted and the id is on the list.
pub record HasEvaluated {A E : Type 0} (old new : Refs) (id : Id) (result : Result A E) : Type 0 where
  pub reads : Reads old new id
  pub kept : OnOk result (IsKept new.tags (rows_of new) id)
  pub evals : OnOk result (new.evals ≡ old.evals + 1)
  pub evaluated : OnOk result (new.evaluated ≡ old.evaluated ++ id ∷ [])
  pub evals_stay : OnErr result (new.evals ≡ old.evals)
  pub evaluated_stays : OnErr result (new.evaluated ≡ old.evaluated)
