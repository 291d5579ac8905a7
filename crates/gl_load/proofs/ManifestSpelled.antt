-- Each expression of a manifest that is read is spelled by some text.
use Rattle.std.proofs.Common.{◌≡◌, ℕ, List, [], ◌∷◌, Option, Some, None}
use Rattle.std.specs.Prelude.{codes}
use Rattle.serde_json.specs.Data as d
use Rattle.gl_base.specs.Texts.{Text}
use Rattle.gl_ast.specs.Grammar.{SpellsExpr}
use Rattle.gl_ast.specs.Template.{Expr, Exprs, no_exprs, expr}
use Rattle.gl_meaning.specs.App.{Step, set_step, call_step, Action}
use Rattle.gl_meaning.specs.JsonText.{members_at, items_at, text_in, text_at}
use Rattle.gl_meaning.specs.Manifest.{ClassEntry, Manifest}
use Rattle.gl_meaning.specs.ManifestIs.{MembersAre, ItemsAre, IsWhen, AreArguments, IsStep, IsAction, IsGetter, IsClass, IsManifest}
use Rattle.gl_meaning.specs.ManifestOf.{said, read_manifest}
use Rattle.gl_meaning.specs.ManifestRules.{Each}
use Rattle.gl_parse.specs.ReadStmt.{expression_of}
use Rattle.gl_manifest.proofs.Holding.{said_holds}
use Rattle.gl_load.specs.Spelled.{AreExpressions, IsSpelledWhen, IsSpelledStep, IsSpelledGetter, IsSpelledAction, IsSpelledClass, IsSpelledManifest}

each_member : {A : Type 0} (R : List ℕ → d.Data → A → Type 0) (P : A → Type 0) → ((k : List ℕ) (x : d.Data) (y : A) → R k x y → P y) → (ms : d.Members) (ys : List A) → MembersAre R ms ys → Each P ys
each_member R P gives d.no_members [] r = tt
each_member R P gives d.no_members (y ∷ ys) r = absurd r
each_member R P gives (d.member k x ms) [] r = absurd r
each_member R P gives (d.member k x ms) (y ∷ ys) r = (gives k x y r.0, each_member R P gives ms ys r.1)

each_item : {A : Type 0} (R : d.Data → A → Type 0) (P : A → Type 0) → ((x : d.Data) (y : A) → R x y → P y) → (ds : d.Items) (ys : List A) → ItemsAre R ds ys → Each P ys
each_item R P gives d.no_items [] r = tt
each_item R P gives d.no_items (y ∷ ys) r = absurd r
each_item R P gives (d.item x ds) [] r = absurd r
each_item R P gives (d.item x ds) (y ∷ ys) r = (gives x y r.0, each_item R P gives ds ys r.1)

spelled_when : (x : d.Data) (w : Option Expr) → IsWhen SpellsExpr x w → IsSpelledWhen w
spelled_when x None r = tt
spelled_when x (Some e) r = (text_at (codes "when") x, r.1)

spelled_arguments : (ds : d.Items) (es : Exprs) → AreArguments SpellsExpr ds es → AreExpressions es
spelled_arguments d.no_items no_exprs r = tt
spelled_arguments d.no_items (expr e es) r = absurd r
spelled_arguments (d.item x ds) no_exprs r = absurd r
spelled_arguments (d.item x ds) (expr e es) r = ((text_in (Some x), r.0), spelled_arguments ds es r.1)

spelled_step : (x : d.Data) (s : Step) → IsStep SpellsExpr x s → IsSpelledStep s
spelled_step x (set_step w f e) r = (spelled_when x w r.3, (text_at (codes "to") x, r.2))
spelled_step x (call_step w n ks es) r = (spelled_when x w r.2, spelled_arguments (items_at (codes "with") x) es r.3)

spelled_action : (k : List ℕ) (x : d.Data) (a : Text × Action) → IsAction SpellsExpr k x a → IsSpelledAction a
spelled_action k x a r = each_item (IsStep SpellsExpr) IsSpelledStep spelled_step (items_at (codes "do") x) a.1.steps r.steps

spelled_getter : (k : List ℕ) (x : d.Data) (g : Text × Expr) → IsGetter SpellsExpr k x g → IsSpelledGetter g
spelled_getter k x g r = (text_in (Some x), r.1)

spelled_class : (k : List ℕ) (x : d.Data) (c : ClassEntry) → IsClass SpellsExpr k x c → IsSpelledClass c
spelled_class k x c r = (
  each_member (IsGetter SpellsExpr) IsSpelledGetter spelled_getter (members_at (codes "getters") x) c.getters r.getters,
  each_member (IsAction SpellsExpr) IsSpelledAction spelled_action (members_at (codes "actions") x) c.actions r.actions,
)

spelled_json : (x : d.Data) (m : Manifest) → IsManifest SpellsExpr x m → IsSpelledManifest m
spelled_json x m r = each_member (IsClass SpellsExpr) IsSpelledClass spelled_class (members_at (codes "classes") x) m.classes r.classes

pub manifest_spelled : (bytes : List ℕ) (m : Manifest) → read_manifest expression_of bytes ≡ said m → IsSpelledManifest m
manifest_spelled bytes m e = let h = said_holds bytes m e in spelled_json h.0 m h.3
