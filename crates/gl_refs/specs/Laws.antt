-- What references mean, and what keeps it.
use Rattle.std.specs.Prelude.{◌≡◌, ◌≢◌, ℕ, ◌≤◌, ◌⊎◌, Bool, true, false, Some, option_map, IsSome, is_some}
use Rattle.std.specs.List.{list_any}
use Rattle.gl_arena.specs.Id.{Id, same_id}
use Rattle.gl_arena.specs.Arena.{IsStamped, by_stamp, Ends}
use Rattle.gl_tags.specs.Tags as t
use Rattle.gl_value.specs.Proper.{IsProper}
use Rattle.gl_refs.specs.Forms.{V, Form, constant_form, source_form, Look, form_at, parts, own_sources, pair_by, below, meaning, Like, Each, IsUnread, IsReadFor}
use Rattle.gl_refs.specs.State.{Row, Rows, forms, held, held_value, held_tag, has_tag, kept, own_tag, IsKept, IsValid, IsSource, Reaches, IsSound, EndsTag, Sets, Binds, Evaluates, Frees, is_bound}
use Rattle.gl_refs.specs.Refs.{Refs, rows_of, forms_of, meaning_of, Reads, Makes, MakesSource, SetsValue}

-- A reference means what its form gives where its parts mean what they mean. No rank and no graph is needed: only what
-- was made before it is read for it.
abbrev pub MeaningIs : Type 0
MeaningIs = (l : Look) (i : Id) → meaning l i ≡ pair_by (below (meaning l) i) (form_at l i)

-- Where none of the sources that were read for it was touched, a reference means the same: every form stays, but for
-- those of sources that were touched.
abbrev pub UntouchedStays : Type 0
UntouchedStays =
    (touched : Id → Bool) (old new : Look) → ((i : Id) → (form_at new i ≡ form_at old i) ⊎ (list_any touched (own_sources (form_at old i)) ≡ true)) →
    (i : Id) → list_any touched (meaning old i).sources ≡ false → meaning new i ≡ meaning old i

-- Where some references name each other alone, and their forms stay, they mean the same.
abbrev pub ApartStays : Type 0
ApartStays =
    (inside : Id → Bool) (old new : Look) → ((i : Id) → inside i ≡ true → (form_at new i ≡ form_at old i) × Each (λ q. inside q ≡ true) (parts (form_at old i))) →
    (i : Id) → inside i ≡ true → meaning new i ≡ meaning old i

-- What may be used without an evaluation is what the reference means now.
abbrev pub KeptIsNow : Type 0
KeptIsNow = (tags : t.Tags) (rows : Rows) (i : Id) → IsSound tags rows → IsKept tags rows i → held (rows i) ≡ Some (meaning (forms rows) i).value

-- Where a source gets a value and is touched, what may be used stays right: also what was evaluated in the same revision.
abbrev pub SetKeeps : Type 0
SetKeeps = (tags tags' : t.Tags) (rows rows' : Rows) (c : Id) (value : V) → IsSound tags rows → Sets tags tags' rows rows' c value → t.IsSound tags' → IsSound tags' rows'

-- A new reference leaves all others as they are.
abbrev pub BindKeeps : Type 0
BindKeeps = (tags : t.Tags) (rows rows' : Rows) (n : Id) (form : Form) → IsSound tags rows → Binds rows rows' n form → is_bound form ≡ true → IsSound tags rows'

-- An evaluation of one reference leaves all others as they are.
abbrev pub EvaluationKeeps : Type 0
EvaluationKeeps = (tags tags' : t.Tags) (rows rows' : Rows) (i : Id) → IsSound tags rows → Evaluates tags tags' rows rows' i → IsSound tags' rows'

-- A reference that no live one reads is ended, with its tag, and all others stay as they are.
abbrev pub FreeKeeps : Type 0
FreeKeeps = (tags tags' : t.Tags) (rows rows' : Rows) (i : Id) → IsSound tags rows → Frees tags tags' rows rows' i → IsSound tags' rows'

-- What is kept and may be used has the sources of now too: those are what its tag leads to.
abbrev pub KeptLike : Type 0
KeptLike =
    (tags : t.Tags) (rows : Rows) (i : Id) → IsSound tags rows → IsKept tags rows i →
    Like (record { value = held_value rows i; sources = t.leads_of tags.tags (held_tag tags rows i) }) (meaning (forms rows) i)

-- A reference that has a tag is valid since a revision exactly where the tag's value isn't greater.
abbrev pub ValidByTag : Type 0
ValidByTag =
    (tags : t.Tags) (rows : Rows) (i : Id) (since : ℕ) → IsSound tags rows → has_tag (rows i) ≡ true →
    (IsValid tags since (rows i) → t.value_of tags (held_tag tags rows i) ≤ since) × (t.value_of tags (held_tag tags rows i) ≤ since → IsValid tags since (rows i))

-- The sources of what a reference means are among the cells and items that are named for it, directly or through others.
abbrev pub SourcesAreNamed : Type 0
SourcesAreNamed =
    (tags : t.Tags) (rows : Rows) (i c s : Id) → IsSound tags rows → IsSource rows c s → (Reaches (forms rows) i c → ⊥) →
    list_any (same_id s) (meaning (forms rows) i).sources ≡ false

-- A call leaves a reference alone: its row stays with its last evaluation, its tag has the value that it had, what may be used of it may be used
-- still and no more, it is valid since the same revisions, and it means the same.
pub record LeftAlone (old new : Refs) (k : Id) : Type 0 where
  pub row : rows_of new k ≡ rows_of old k
  pub value : (u : Id) → own_tag (rows_of old k) ≡ Some u → t.value_of new.tags u ≡ t.value_of old.tags u
  pub usable : is_some (kept new.tags (rows_of new) k) ≡ is_some (kept old.tags (rows_of old) k)
  pub valid : (since : ℕ) → (IsValid old.tags since (rows_of old k) → IsValid new.tags since (rows_of new k)) × (IsValid new.tags since (rows_of new k) → IsValid old.tags since (rows_of old k))
  pub means : meaning_of new k ≡ meaning_of old k

-- A read or an evaluation leaves every reference alone that isn't read for its own, directly or through others.
abbrev pub ReadLeaves : Type 0
ReadLeaves = (old new : Refs) (id k : Id) → IsSound old.tags (rows_of old) → Reads old new id → (IsReadFor (forms_of old) id k → ⊥) → LeftAlone old new k

-- A set, and a give of another value, leave every reference alone for which the cell or item isn't named.
abbrev pub SetLeaves : Type 0
SetLeaves =
    (old new : Refs) (c k : Id) (kind : Bool) (value : V) → IsSound old.tags (rows_of old) → SetsValue old new c kind value → (Reaches (forms_of old) k c → ⊥) →
    LeftAlone old new k

-- A new constant or bound reference, and a new cell or item, leave every live one alone.
abbrev pub MakeLeaves : Type 0
MakeLeaves = (old new : Refs) (id k : Id) (form : Form) → IsSound old.tags (rows_of old) → Makes old new id form → IsSome (forms_of old k) → LeftAlone old new k

abbrev pub SourceLeaves : Type 0
SourceLeaves =
    (old new : Refs) (id k : Id) (kind : Bool) (value : V) → IsSound old.tags (rows_of old) → MakesSource old new id kind value → IsSome (forms_of old k) →
    LeftAlone old new k

-- The end of a reference leaves every other live one alone.
abbrev pub FreeLeaves : Type 0
FreeLeaves =
    (old new : Refs) (i k : Id) → IsSound old.tags (rows_of old) → IsSound new.tags (rows_of new) → IsUnread (forms_of old) i → Ends old.rows new.rows i →
    EndsTag old.tags new.tags (own_tag (rows_of old i)) → IsSome (forms_of old k) → k ≢ i → LeftAlone old new k

-- A number that is kept for a tag with a mark: where the mark is the present count of dirtyings, it is the tag's value.
abbrev pub IsMarked : t.Tags → Id → ℕ → ℕ → Type 0
IsMarked tags u number mark = (mark ≤ tags.count) × (mark ≡ tags.count → number ≡ t.value_of tags u)

-- What is kept with its mark stays right: a set raises the count above each mark ..
abbrev pub SetKeepsMarks : Type 0
SetKeepsMarks = (old new : Refs) (c u : Id) (kind : Bool) (value : V) (number mark : ℕ) → SetsValue old new c kind value → IsMarked old.tags u number mark → IsMarked new.tags u number mark

-- .. and a call that touches nothing leaves the count, and the tags of those that it leaves alone.
abbrev pub LeavingKeepsMarks : Type 0
LeavingKeepsMarks =
    (old new : Refs) (k u : Id) (number mark : ℕ) → LeftAlone old new k → own_tag (rows_of old k) ≡ Some u → new.tags.count ≡ old.tags.count →
    IsMarked old.tags u number mark → IsMarked new.tags u number mark

-- By stamps, as by ids: no read and no evaluation changes the form that stands at a stamp.
abbrev pub FormsByStamp : Type 0
FormsByStamp =
    (old new : Refs) (id : Id) → IsStamped old.rows → IsStamped new.rows → Reads old new id → (s : ℕ) →
    option_map (λ (r : Row). r.form) (by_stamp new.rows s) ≡ option_map (λ (r : Row). r.form) (by_stamp old.rows s)

-- a constant, a cell or an item holds a proper value
abbrev pub HoldsProper : Form → Type 0
HoldsProper (constant_form v) = IsProper v
HoldsProper (source_form k s v) = IsProper v
HoldsProper g = Unit {0}

abbrev pub AreProper : Look → Type 0
AreProper l = (i : Id) (g : Form) → l i ≡ Some g → HoldsProper g

-- Where each constant, cell and item holds a proper value, each reference means a proper one.
abbrev pub MeansProper : Type 0
MeansProper = (l : Look) → AreProper l → (i : Id) → IsProper (meaning l i).value
