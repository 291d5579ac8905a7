-- Which manifest JSON of its form holds, as a relation. `Spells` says which expressions a text spells.
use Rattle.std.specs.Prelude.{◌≡◌, ℕ, List, [], ◌∷◌, true, false, Ok, Option, Some, None, codes}
use Rattle.std.specs.Str.{chars}
use Rattle.serde_json.specs.Data as json
use Rattle.gl_base.specs.Texts.{Text}
use Rattle.gl_value.specs.Value.{Value, plain}
use Rattle.gl_ast.specs.Template.{Plain, Expr, argument, Exprs, no_exprs, expr}
use Rattle.gl_meaning.specs.App.{Step, set_step, call_step, Action}
use Rattle.gl_meaning.specs.JsonText.{members_at, items_at, text_in, text_at, has_key}
use Rattle.gl_meaning.specs.Manifest.{Manifest, ClassEntry}
use Rattle.gl_meaning.specs.ManifestOf.{flag_at, limit_in}
use Rattle.gl_meaning.specs.Walk.{value_at}

-- one for each member, in their order; and one for each item
abbrev pub MembersAre : {A : Type 0} → (List ℕ → json.Data → A → Type 0) → json.Members → List A → Type 0
MembersAre R json.no_members [] = Unit {0}
MembersAre R (json.member k d ms) (x ∷ xs) = R k d x × MembersAre R ms xs
MembersAre R ms xs = ⊥

abbrev pub ItemsAre : {A : Type 0} → (json.Data → A → Type 0) → json.Items → List A → Type 0
ItemsAre R json.no_items [] = Unit {0}
ItemsAre R (json.item d ds) (x ∷ xs) = R d x × ItemsAre R ds xs
ItemsAre R ds xs = ⊥

abbrev pub IsText : json.Data → Text → Type 0
IsText (json.string s) t = t ≡ chars s
IsText d t = ⊥

abbrev pub Spelling : Type 1
Spelling = List ℕ → Expr → Type 0

abbrev pub IsSpelled : Spelling → json.Data → Expr → Type 0
IsSpelled Spells d e = Spells (text_in (Some d)) e

abbrev pub IsWhen : Spelling → json.Data → Option Expr → Type 0
IsWhen Spells d None = has_key (codes "when") d ≡ false
IsWhen Spells d (Some e) = (has_key (codes "when") d ≡ true) × Spells (text_at (codes "when") d) e

-- the arguments of a call, one for each item
abbrev pub AreArguments : Spelling → json.Items → Exprs → Type 0
AreArguments Spells json.no_items no_exprs = Unit {0}
AreArguments Spells (json.item d ds) (expr e es) = IsSpelled Spells d e × AreArguments Spells ds es
AreArguments Spells ds es = ⊥

-- a step with `set` sets a field, any other calls an action
abbrev pub IsStep : Spelling → json.Data → Step → Type 0
IsStep Spells d (set_step w f e) =
    (has_key (codes "set") d ≡ true) × (f ≡ chars (text_at (codes "set") d)) × Spells (text_at (codes "to") d) e × IsWhen Spells d w
IsStep Spells d (call_step w n rest args) =
    (has_key (codes "set") d ≡ false) × Spells (text_at (codes "call") d) (argument n rest) × IsWhen Spells d w
    × AreArguments Spells (items_at (codes "with") d) args

pub record IsAction (Spells : Spelling) (k : List ℕ) (d : json.Data) (x : Text × Action) : Type 0 where
  pub name : x.0 ≡ chars k
  pub params : ItemsAre IsText (items_at (codes "params") d) x.1.params
  pub steps : ItemsAre (IsStep Spells) (items_at (codes "do") d) x.1.steps

-- a field has the plain form of the value
abbrev pub IsField : List ℕ → json.Data → Text × Plain → Type 0
IsField k d f = (f.0 ≡ chars k) × (v : Value ℕ) × (value_at d ≡ Ok v) × (f.1 ≡ plain v)

abbrev pub IsGetter : Spelling → List ℕ → json.Data → Text × Expr → Type 0
IsGetter Spells k d g = (g.0 ≡ chars k) × IsSpelled Spells d g.1

pub record IsClass (Spells : Spelling) (k : List ℕ) (d : json.Data) (c : ClassEntry) : Type 0 where
  pub name : c.name ≡ chars k
  pub file : c.file ≡ chars (text_at (codes "template") d)
  pub fields : MembersAre IsField (members_at (codes "fields") d) c.fields
  pub getters : MembersAre (IsGetter Spells) (members_at (codes "getters") d) c.getters
  pub actions : MembersAre (IsAction Spells) (members_at (codes "actions") d) c.actions
  pub teardown : c.teardown ≡ flag_at (codes "teardown") d

pub record IsManifest (Spells : Spelling) (d : json.Data) (m : Manifest) : Type 0 where
  pub root : m.root ≡ chars (text_at (codes "root") d)
  pub limit : m.limit ≡ limit_in d
  pub modifiers : ItemsAre IsText (items_at (codes "modifiers") d) m.modifiers
  pub classes : MembersAre (IsClass Spells) (members_at (codes "classes") d) m.classes
