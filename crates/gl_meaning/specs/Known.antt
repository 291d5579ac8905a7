-- Names that don't resolve, and getters that reach themselves.
use Rattle.std.specs.Prelude.{◌≡◌, List, [], ◌∷◌, ◌++◌, map, flat_map, Bool, true, false, ◌&&◌, ◌||◌, if◌then◌else◌, Option, Some, None, codes, is_some, ◌⊎◌}
use Rattle.std.specs.Str.{bytes_eq}
use Rattle.gl_base.specs.Texts.{Text}
use Rattle.gl_base.specs.Names.{named, has_text}
use Rattle.gl_value.specs.Value.{is_empty}
use Rattle.gl_value.specs.Helpers.{helper_table}
use Rattle.gl_ast.specs.Template.{Expr, literal, this, argument, bare, call, cat, Exprs, no_exprs, expr, NamedExprs, no_named, named_expr, AttrValue, fixed, live, Part, attribute, modifier, spread, Stmt, text_stmt, comment_stmt, put, element, component_stmt, if_stmt, each, let_stmt, yield, Body, end, stmt, Slots, no_slots, block}
use Rattle.gl_meaning.specs.App.{Step, set_step, call_step, Class, App}

-- Names

pub data Kind : Type 0 where
  -- a tag without a class
  component_kind : Kind
  -- a called name, or a lone name that is no block parameter, that isn't a helper's
  helper_kind : Kind
  -- neither `on` nor one of the app's modifiers
  modifier_kind : Kind
  -- `this.x` that the class lacks
  member_kind : Kind
  -- another bare name that is no block parameter
  local_kind : Kind
  -- the `set` of a step that is no field of the class
  field_kind : Kind

pub record Unknown : Type 0 where
  pub kind : Kind
  pub name : Text

-- the name, unless it is known
abbrev pub unless_known : Bool → Kind → Text → List Unknown
unless_known known k n = if known then [] else record { kind = k; name = n } ∷ []

-- A called name is always a helper's, also where a block parameter has that name.
abbrev pub helper_unknown : Text → List Unknown
helper_unknown n = unless_known (is_some (named n helper_table)) helper_kind n

abbrev pub has_member : Class → Text → Bool
has_member c x = is_some (named x c.fields) || (is_some (named x c.getters) || is_some (named x c.actions))

abbrev pub has_class : Text → List Class → Bool
has_class n [] = false
has_class n (c ∷ cs) = bytes_eq n c.name || has_class n cs

-- The unknown names of a class, in the order of the canonical spelling of its template. `params` are the block parameters in
-- scope; `whole` says that the expression is the whole of a mustache, so that a lone name may be a helper's.
module _ (app : App) (c : Class) where
  abbrev pub bare_unknown : Bool → List Text → Text → List Text → List Unknown
  bare_unknown whole params n ks =
      if has_text n params then [] else (if whole && is_empty ks then helper_unknown n else record { kind = local_kind; name = n } ∷ [])

  abbrev mutual
    pub expr_unknowns : Bool → List Text → Expr → List Unknown
    expr_unknowns whole params (literal v) = []
    expr_unknowns whole params (this x ks) = unless_known (has_member c x) member_kind x
    expr_unknowns whole params (argument n ks) = []
    expr_unknowns whole params (bare n ks) = bare_unknown whole params n ks
    expr_unknowns whole params (call n es ns) = helper_unknown n ++ (exprs_unknowns false params es ++ named_unknowns params ns)
    expr_unknowns whole params (cat es) = exprs_unknowns true params es

    pub exprs_unknowns : Bool → List Text → Exprs → List Unknown
    exprs_unknowns whole params no_exprs = []
    exprs_unknowns whole params (expr e es) = expr_unknowns whole params e ++ exprs_unknowns whole params es

    pub named_unknowns : List Text → NamedExprs → List Unknown
    named_unknowns params no_named = []
    named_unknowns params (named_expr n e ns) = expr_unknowns false params e ++ named_unknowns params ns

  abbrev pub value_unknowns : List Text → AttrValue → List Unknown
  value_unknowns params (fixed t) = []
  value_unknowns params (live e) = expr_unknowns true params e

  abbrev pub part_unknowns : List Text → Part → List Unknown
  part_unknowns params (attribute n v) = value_unknowns params v
  part_unknowns params (modifier n es ns) =
      unless_known (has_text n (codes "on" ∷ app.modifiers)) modifier_kind n
      ++ (exprs_unknowns false params es ++ named_unknowns params ns)
  part_unknowns params spread = []

  -- a component's arguments stand before its parts
  abbrev mutual
    pub stmt_unknowns : List Text → Stmt → List Unknown
    stmt_unknowns params (text_stmt t) = []
    stmt_unknowns params (comment_stmt t) = []
    stmt_unknowns params (put e) = expr_unknowns true params e
    stmt_unknowns params (element tag ps b) = flat_map (part_unknowns params) ps ++ body_unknowns params b
    stmt_unknowns params (component_stmt n ps given bs) =
        unless_known (has_class n app.classes) component_kind n
        ++ (flat_map (λ g. value_unknowns params g.1) given ++ (flat_map (part_unknowns params) ps ++ slots_unknowns params bs))
    stmt_unknowns params (if_stmt e u b o) = expr_unknowns false params e ++ (body_unknowns params b ++ body_unknowns params o)
    stmt_unknowns params (each e k ns b o) = expr_unknowns false params e ++ (body_unknowns (params ++ ns) b ++ body_unknowns params o)
    stmt_unknowns params (let_stmt es ns b) = exprs_unknowns false params es ++ body_unknowns (params ++ ns) b
    stmt_unknowns params (yield es n) = exprs_unknowns false params es

    pub body_unknowns : List Text → Body → List Unknown
    body_unknowns params end = []
    body_unknowns params (stmt s b) = stmt_unknowns params s ++ body_unknowns params b

    pub slots_unknowns : List Text → Slots → List Unknown
    slots_unknowns params no_slots = []
    slots_unknowns params (block n ns b bs) = body_unknowns (params ++ ns) b ++ slots_unknowns params bs

  abbrev pub when_unknowns : List Text → Option Expr → List Unknown
  when_unknowns params None = []
  when_unknowns params (Some e) = expr_unknowns false params e

  -- in a step: `when`, then `set` and `to`, or the values of `call`; its parameters are the action's
  abbrev pub step_unknowns : List Text → Step → List Unknown
  step_unknowns params (set_step w f e) =
      when_unknowns params w
      ++ (unless_known (is_some (named f c.fields)) field_kind f ++ expr_unknowns false params e)
  step_unknowns params (call_step w a ks es) = when_unknowns params w ++ exprs_unknowns false params es

  -- the getters by name, then the actions by name
  abbrev pub manifest_unknowns : List Unknown
  manifest_unknowns =
      flat_map (λ g. expr_unknowns false [] g.1) c.getters
      ++ flat_map (λ a. flat_map (step_unknowns a.1.params) a.1.steps) c.actions

-- an unknown name with the template's file in which it stands; none where it stands in the manifest
pub record Place : Type 0 where
  pub unknown : Unknown
  pub template : Option Text

abbrev pub in_manifest : Unknown → Place
in_manifest u = record { unknown = u; template = None }

abbrev pub in_template : Text → Unknown → Place
in_template file u = record { unknown = u; template = Some file }

abbrev pub class_unknowns : App → Class → List Place
class_unknowns app c =
    map (in_template c.file) (body_unknowns app c [] c.template)
    ++ map in_manifest (manifest_unknowns app c)

-- All unknown names in order: the root's, then those of each class in the byte order of names.
abbrev pub unknowns : App → List Place
unknowns app =
    map in_manifest (unless_known (has_class app.root app.classes) component_kind app.root)
    ++ flat_map (class_unknowns app) app.classes

abbrev pub first_of : {A : Type 0} → List A → Option A
first_of [] = None
first_of (x ∷ xs) = Some x

abbrev pub first_unknown : App → Option Place
first_unknown app = first_of (unknowns app)

-- every name of the app is known
abbrev pub Known : App → Type 0
Known app = unknowns app ≡ []

-- Getters

-- the members of `this` that an expression mentions, untaken branches included
abbrev mutual
  pub mentions : Expr → List Text
  mentions (this x ks) = x ∷ []
  mentions (call n es ns) = all_mentions es ++ named_mentions ns
  mentions (cat es) = all_mentions es
  mentions _ = []

  pub all_mentions : Exprs → List Text
  all_mentions no_exprs = []
  all_mentions (expr e es) = mentions e ++ all_mentions es

  pub named_mentions : NamedExprs → List Text
  named_mentions no_named = []
  named_mentions (named_expr n e ns) = mentions e ++ named_mentions ns

-- x stands in the list
abbrev pub Among : {A : Type 0} → A → List A → Type 0
Among x [] = ⊥
Among x (y ∷ ys) = (x ≡ y) ⊎ Among x ys

-- A chain of mentions among a class's getters leads from one getter to a member.
pub data Leads (c : Class) : Text → Text → Type 0 where
  mention : {g x : Text} {e : Expr} → named g c.getters ≡ Some e → Among x (mentions e) → Leads c g x
  onward : {g x y : Text} → Leads c g x → Leads c x y → Leads c g y

-- the getter reaches itself
abbrev pub Reaches : Class → Text → Type 0
Reaches c g = Leads c g g

-- no getter of the class reaches itself
abbrev pub Acyclic : Class → Type 0
Acyclic c = (g : Text) → Reaches c g → ⊥

-- a getter with its class
pub record Getter : Type 0 where
  pub of_class : Class
  pub name : Text

-- all getters, by class name and then by getter name
abbrev pub getters_of : App → List Getter
getters_of app = flat_map (λ c. map (λ g. record { of_class = c; name = g.0 }) c.getters) app.classes

-- g is the first of these that reaches itself
abbrev pub IsFirstCycle : List Getter → Getter → Type 0
IsFirstCycle [] g = ⊥
IsFirstCycle (h ∷ hs) g = ((h ≡ g) × Reaches h.of_class h.name) ⊎ ((Reaches h.of_class h.name → ⊥) × IsFirstCycle hs g)

-- the first getter of the app that reaches itself
abbrev pub IsCyclic : App → Getter → Type 0
IsCyclic app g = IsFirstCycle (getters_of app) g

-- no getter of the app reaches itself
abbrev pub HasNoCycle : App → Type 0
HasNoCycle app = (c : Class) → Among c app.classes → Acyclic c
