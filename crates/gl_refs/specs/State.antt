-- The references with what each keeps, their tags, and the counts.
use Rattle.std.specs.Prelude.{◌≡◌, ◌≢◌, ℕ, ◌+◌, ◌<◌, ◌≤◌, Bool, true, false, cond, ltb, List, [], ◌∷◌, map, flat_map, take, unwrap_or, Option, Some, None, IsSome, is_some, option_map, ◌⊎◌}
use denote.Ref.{Bor}
use Rattle.gl_value.specs.Value.{undefined}
use Rattle.std.specs.List.{list_any}
use Rattle.gl_arena.specs.Id.{Id, same_id}
use Rattle.gl_arena.specs.Arena.{with_value}
use Rattle.gl_tags.specs.Tags as t
use Rattle.gl_refs.specs.Forms.{V, Form, constant_form, source_form, all_form, Look, form_at, Pair, meaning, Like, AreLower, is_known, AreKnown, IsUnread, parts, reads, value_by, Each, IsReadFor}

-- the last evaluation: its value, how many dirtyings there were then, and the tag that leads to its sources
pub record Last : Type 0 where
  pub value : V
  pub order : ℕ
  pub tag : Id

pub record Row : Type 0 where
  pub form : Form
  pub last : Option Last

abbrev pub Rows : Type 0
Rows = Id → Option Row

abbrev pub forms : Rows → Look
forms rows i = option_map (λ r. r.form) (rows i)

-- a value with a tag
pub record Kept : Type 0 where
  pub value : V
  pub tag : Id

abbrev pub last_kept : t.Tags → Last → Option Kept
last_kept tags l = cond (ltb l.order (t.order_of tags l.tag)) None (Some (record { value = l.value; tag = l.tag }))

abbrev pub kept_last : t.Tags → Option Last → Option Kept
kept_last tags None = None
kept_last tags (Some l) = last_kept tags l

-- what may be used without an evaluation: where no source was dirtied after the last evaluation
abbrev pub kept_by : t.Tags → Form → Option Last → Option Kept
kept_by tags (constant_form v) l = Some (record { value = v; tag = tags.still })
kept_by tags (source_form k s v) l = Some (record { value = v; tag = s })
kept_by tags g None = None
kept_by tags g (Some l) = last_kept tags l

abbrev pub kept_row : t.Tags → Option Row → Option Kept
kept_row tags None = None
kept_row tags (Some r) = kept_by tags r.form r.last

abbrev pub kept : t.Tags → Rows → Id → Option Kept
kept tags rows i = kept_row tags (rows i)

abbrev pub kept_pair : t.Tags → Kept → Pair
kept_pair tags k = record { value = k.value; sources = t.leads_of tags.tags k.tag }

-- a kept value that may be used is what the reference means now
abbrev pub IsRight : t.Tags → Rows → Type 0
IsRight tags rows = (i : Id) (k : Kept) → kept tags rows i ≡ Some k → Like (kept_pair tags k) (meaning (forms rows) i)

abbrev pub own_by : Form → Option Last → Option Id
own_by (constant_form v) l = None
own_by (source_form k s v) l = Some s
own_by g l = option_map (λ x. x.tag) l

-- the tag that a row owns
abbrev pub own_tag : Option Row → Option Id
own_tag None = None
own_tag (Some r) = own_by r.form r.last

abbrev pub is_combined : Option t.Tag → Bool
is_combined (Some (t.combined leads)) = true
is_combined o = false

abbrev pub LastFits : t.Tags → Option Last → Type 0
LastFits tags None = Unit {0}
LastFits tags (Some l) = (is_combined (t.tag_at tags l.tag) ≡ true) × (l.order ≤ tags.count)

-- a source's tag is dirtyable, and that of a last evaluation combined
abbrev pub RowFits : t.Tags → Form → Option Last → Type 0
RowFits tags (constant_form v) l = Unit {0}
RowFits tags (source_form k s v) l = t.is_dirtyable (t.tag_at tags s) ≡ true
RowFits tags g l = LastFits tags l

-- the forms that are evaluated
abbrev pub is_bound : Form → Bool
is_bound (constant_form v) = false
is_bound (source_form k s v) = false
is_bound g = true

-- the reference is a cell or an item with that tag
pub record IsSource (rows : Rows) (i tag : Id) : Type 0 where
  pub kind : Bool
  pub was : V
  pub last : Option Last
  pub is : rows i ≡ Some (record { form = source_form kind tag was; last = last })

-- the tag of the last evaluation of a bound reference
abbrev pub last_by : Form → Option Last → Option Id
last_by (constant_form v) l = None
last_by (source_form k s v) l = None
last_by g l = option_map (λ x. x.tag) l

abbrev pub last_tag : Row → Option Id
last_tag r = last_by r.form r.last

-- q is named for i, directly or through others, be it read or not
pub data Reaches (l : Look) (i : Id) : Id → Type 0 where
  itself : Reaches l i i
  through : (k q : Id) (g : Form) → Reaches l i k → l k ≡ Some g → list_any (same_id q) (parts g) ≡ true → Reaches l i q

-- the tag of a last evaluation leads to no cell or item but those that are named for its reference
abbrev pub LeadsWithin : t.Tags → Rows → Type 0
LeadsWithin tags rows =
    (i u c s : Id) (r : Row) → rows i ≡ Some r → last_tag r ≡ Some u → IsSource rows c s → (Reaches (forms rows) i c → ⊥) → list_any (same_id s) (t.leads_of tags.tags u) ≡ false

-- each combined tag is that of a last evaluation
abbrev pub CombinedOwned : t.Tags → Rows → Type 0
CombinedOwned tags rows = (u : Id) → ((i : Id) → own_tag (rows i) ≢ Some u) → is_combined (t.tag_at tags u) ≡ false

-- what references always keep
pub record IsSound (tags : t.Tags) (rows : Rows) : Type 0 where
  pub tags_sound : t.IsSound tags
  pub lower : AreLower (forms rows)
  pub known : AreKnown (forms rows)
  pub fits : (i : Id) (r : Row) → rows i ≡ Some r → RowFits tags r.form r.last
  pub owned : (i k s : Id) → own_tag (rows i) ≡ Some s → own_tag (rows k) ≡ Some s → i ≡ k
  pub right : IsRight tags rows
  pub leads : LeadsWithin tags rows
  pub combined : CombinedOwned tags rows

-- the source c gets a value, and is touched
pub record Sets (tags tags' : t.Tags) (rows rows' : Rows) (c : Id) (value : V) : Type 0 where
  pub kind : Bool
  pub tag : Id
  pub was : V
  pub last : Option Last
  pub old : rows c ≡ Some (record { form = source_form kind tag was; last = last })
  pub given : rows' c ≡ Some (record { form = source_form kind tag value; last = last })
  pub others : (i : Id) → i ≢ c → rows' i ≡ rows i
  pub dirtied : tags' ≡ record tags { tags = with_value tags.tags tag (t.dirtyable tags.clock (tags.count + 1)); count = tags.count + 1 }

-- the bound reference i gets an evaluation of now
pub record Evaluates (tags tags' : t.Tags) (rows rows' : Rows) (i : Id) : Type 0 where
  pub row : Row
  pub last : Last
  pub old : rows i ≡ Some row
  pub bound : is_bound row.form ≡ true
  pub given : rows' i ≡ Some (record { form = row.form; last = Some last })
  pub others : (k : Id) → k ≢ i → rows' k ≡ rows k
  pub order : last.order ≡ tags'.count
  pub combined : is_combined (t.tag_at tags' last.tag) ≡ true
  pub like : Like (kept_pair tags' (record { value = last.value; tag = last.tag })) (meaning (forms rows) i)
  pub fresh : (k : Id) → own_tag (rows k) ≢ Some last.tag
  pub tags_sound : t.IsSound tags'
  pub still : tags'.still ≡ tags.still
  pub count : tags'.count ≡ tags.count
  pub dirtyable : (k : Id) → t.is_dirtyable (t.tag_at tags k) ≡ true → t.tag_at tags' k ≡ t.tag_at tags k
  pub tags_others : (k u : Id) → k ≢ i → own_tag (rows k) ≡ Some u → t.tag_at tags' u ≡ t.tag_at tags u
  pub swapped : (u : Id) → u ≢ last.tag → is_combined (t.tag_at tags' u) ≡ true → (is_combined (t.tag_at tags u) ≡ true) × (own_tag (rows i) ≢ Some u)

-- what a row holds, be it of now or not: its own value, or that of its last evaluation
abbrev pub held_last : Option Last → Option V
held_last None = None
held_last (Some l) = Some l.value

abbrev pub held_by : Form → Option Last → Option V
held_by (constant_form v) l = Some v
held_by (source_form k s v) l = Some v
held_by g l = held_last l

abbrev pub held : Option Row → Option V
held None = None
held (Some r) = held_by r.form r.last

abbrev pub held_value : Rows → Id → V
held_value rows i = unwrap_or (held (rows i)) undefined

-- the tag of what a row holds: the constant tag for a constant, and where nothing is held
abbrev pub held_tag : t.Tags → Rows → Id → Id
held_tag tags rows i = unwrap_or (own_tag (rows i)) tags.still

-- what is read for i, by what is held
abbrev pub reads_of : Rows → Id → List Id
reads_of rows i = reads (held_value rows) (form_at (forms rows) i)

abbrev pub IsKept : t.Tags → Rows → Id → Type 0
IsKept tags rows i = IsSome (kept tags rows i)

-- a combined tag is made of these, and the old one ended
pub record Swaps (tags tags' : t.Tags) (old : Option Id) (u : Id) (parts : List Id) : Type 0 where
  pub leads : List Id
  pub given : t.tag_at tags' u ≡ Some (t.combined leads)
  pub like : t.SameLeads leads (flat_map (t.leads_of tags.tags) parts)
  pub vacant : t.tag_at tags u ≡ None
  pub others : (k : Id) → k ≢ u → old ≢ Some k → t.tag_at tags' k ≡ t.tag_at tags k
  pub ended : (k : Id) → old ≡ Some k → t.tag_at tags' k ≡ None
  pub rest : t.Rest tags tags'
  pub sound : t.IsSound tags'

-- the reference stays with its tag, or is one of these
abbrev pub StaysOr : (Id → Type 0) → t.Tags → t.Tags → Rows → Rows → Id → Type 0
StaysOr Own tags tags' rows rows' k = ((rows' k ≡ rows k) × ((u : Id) → own_tag (rows k) ≡ Some u → t.tag_at tags' u ≡ t.tag_at tags u)) ⊎ Own k

-- Each reference stays, or is one of these and has an evaluation of now that may be used. What may be used stays so, and so do the tags of
-- sources and of those that stay. Also where memory is wanting in the middle each stays with its tag, or has such an evaluation.
pub record Settles (Own : Id → Type 0) (tags tags' : t.Tags) (rows rows' : Rows) : Type 0 where
  pub sound : IsSound tags' rows'
  pub forms : forms rows' ≡ forms rows
  pub rest : (k : Id) → (rows' k ≡ rows k) ⊎ (Own k × IsKept tags' rows' k)
  pub keeps : (k : Id) → IsKept tags rows k → IsKept tags' rows' k
  pub clock : tags'.clock ≡ tags.clock
  pub count : tags'.count ≡ tags.count
  pub dirtyable : (u : Id) → t.is_dirtyable (t.tag_at tags u) ≡ true → t.tag_at tags' u ≡ t.tag_at tags u
  pub stays : (k : Id) → StaysOr Own tags tags' rows rows' k
  pub either : (k : Id) → StaysOr (λ q. Own q × IsKept tags' rows' q) tags tags' rows rows' k

-- a reference of which the first parts that it reads may be used
pub record Waiting : Type 0 where
  pub id : Id
  pub next : ℕ

abbrev pub IsReady : t.Tags → Rows → Id → Waiting → Type 0
IsReady tags rows root w = IsReadFor (forms rows) root w.id × Each (IsKept tags rows) (take w.next (reads_of rows w.id))

abbrev pub AllReady : t.Tags → Rows → Id → List Waiting → Type 0
AllReady tags rows root [] = Unit {0}
AllReady tags rows root (w ∷ ws) = IsReady tags rows root w × AllReady tags rows root ws

-- what is computed for a bound reference, from what is kept of its parts
pub record Gathers (tags : t.Tags) (rows : Rows) (i : Id) (value : V) (ids : List Id) (old : Option Id) : Type 0 where
  pub row : Row
  pub is : rows i ≡ Some row
  pub bound : is_bound row.form ≡ true
  pub value_is : value ≡ value_by (held_value rows) row.form
  pub tags_are : ids ≡ map (held_tag tags rows) (reads_of rows i)
  pub owns : old ≡ own_tag (rows i)

-- a row gets a last evaluation
pub record Puts (rows rows' : Rows) (i : Id) (last : Last) : Type 0 where
  pub given : (r : Row) → rows i ≡ Some r → rows' i ≡ Some (record { form = r.form; last = Some last })
  pub others : (k : Id) → k ≢ i → rows' k ≡ rows k

abbrev pub by_form : Form → Bool
by_form (source_form k s v) = true
by_form g = false

abbrev pub is_source : Option Row → Bool
is_source None = false
is_source (Some r) = by_form r.form

abbrev pub cell_form : Form → Bool
cell_form (source_form false s v) = true
cell_form g = false

abbrev pub item_form : Form → Bool
item_form (source_form true s v) = true
item_form g = false

abbrev pub is_cell : Option Form → Bool
is_cell None = false
is_cell (Some g) = cell_form g

abbrev pub is_item : Option Form → Bool
is_item None = false
is_item (Some g) = item_form g

-- what others may read: a live reference that is no position
abbrev pub form_readable : Form → Bool
form_readable (all_form ids) = false
form_readable g = true

abbrev pub is_readable : Option Form → Bool
is_readable None = false
is_readable (Some g) = form_readable g

-- a constant, a cell or an item, or a reference that was evaluated
abbrev pub form_tagged : Form → Option Last → Bool
form_tagged (constant_form v) l = true
form_tagged (source_form k s v) l = true
form_tagged g l = is_some l

abbrev pub has_tag : Option Row → Bool
has_tag None = false
has_tag (Some r) = form_tagged r.form r.last

-- a position that was evaluated
abbrev pub form_placed : Form → Option Last → Bool
form_placed (all_form ids) l = is_some l
form_placed g l = false

abbrev pub is_position : Option Row → Bool
is_position None = false
is_position (Some r) = form_placed r.form r.last

-- a position, be it evaluated or not
abbrev pub all_formed : Form → Bool
all_formed (all_form ids) = true
all_formed g = false

abbrev pub is_all : Option Form → Bool
is_all None = false
is_all (Some g) = all_formed g

-- what a live position reads, and none where it is no live position
abbrev pub AreParts : Option (Bor (List Id)) → Option Form → Type 0
AreParts (Some ids) o = o ≡ Some (all_form ids.now)
AreParts None o = is_all o ≡ false

-- a source gets another value
pub record Values (rows rows' : Rows) (i : Id) (value : V) : Type 0 where
  pub given : (kind : Bool) (tag : Id) (was : V) (last : Option Last) → rows i ≡ Some (record { form = source_form kind tag was; last = last }) → rows' i ≡ Some (record { form = source_form kind tag value; last = last })
  pub others : (k : Id) → k ≢ i → rows' k ≡ rows k

-- a reference of that form is made, which was not evaluated yet
pub record Binds (rows rows' : Rows) (n : Id) (form : Form) : Type 0 where
  pub vacant : rows n ≡ None
  pub given : rows' n ≡ Some (record { form = form; last = None })
  pub others : (k : Id) → k ≢ n → rows' k ≡ rows k
  pub parts : Each (λ q. (q.1 < n.1) × IsSome (forms rows q)) (parts form)
  pub known : is_known form ≡ true

-- there was an evaluation, and no source of it was touched at a greater revision
abbrev pub IsValidLast : t.Tags → ℕ → Option Last → Type 0
IsValidLast tags since None = ⊥
IsValidLast tags since (Some l) = t.value_of tags l.tag ≤ since

abbrev pub IsValidForm : t.Tags → ℕ → Form → Option Last → Type 0
IsValidForm tags since (constant_form v) l = Unit {0}
IsValidForm tags since (source_form k s v) l = t.value_of tags s ≤ since
IsValidForm tags since g l = IsValidLast tags since l

abbrev pub IsValid : t.Tags → ℕ → Option Row → Type 0
IsValid tags since None = ⊥
IsValid tags since (Some r) = IsValidForm tags since r.form r.last

-- the tag that an ended reference had is ended, and no other
pub record EndsTag (old new : t.Tags) (own : Option Id) : Type 0 where
  pub rest : t.Rest old new
  pub ended : (u : Id) → own ≡ Some u → t.tag_at new u ≡ None
  pub others : (u : Id) → own ≢ Some u → t.tag_at new u ≡ t.tag_at old u

-- a reference that no live one reads is ended, with its tag
pub record Frees (tags tags' : t.Tags) (rows rows' : Rows) (i : Id) : Type 0 where
  pub unread : IsUnread (forms rows) i
  pub ended : rows' i ≡ None
  pub others : (k : Id) → k ≢ i → rows' k ≡ rows k
  pub tags_sound : t.IsSound tags'
  pub tag : EndsTag tags tags' (own_tag (rows i))
