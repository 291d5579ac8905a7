-- How many questions an update answers, with what was counted before.
use Rattle.std.specs.Prelude.{◌≡◌, ◌≤◌, ℕ, ◌+◌, List, [], ◌∷◌, Bool, if◌then◌else◌, Option, Some, None}
use Rattle.gl_ast.specs.Template.{Body}
use Rattle.gl_meaning.specs.Eval.{Store}
use Rattle.gl_meaning.specs.Order.{NamesRise}
use Rattle.gl_meaning.specs.Path.{items, otherwise, Path}
use Rattle.gl_meaning.specs.Render.{Entry, entries, values_listed}
use Rattle.gl_meaning.specs.Scope.{Source}
use Rattle.gl_meaning.specs.View.{manifest_view}
use Rattle.gl_opc.specs.declared.app.App.{App}
use Rattle.gl_plain.specs.Binding.{Spot, first_value}
use Rattle.gl_plain.specs.Naming.{by_number}
use Rattle.gl_plain.specs.Renew.{spot_pairs, is_stale, reread}
use Rattle.gl_plain.specs.State.{State}
use Rattle.gl_machine.specs.Code.{Listing, Code, Codes}
use Rattle.gl_machine.specs.Env.{Env}
use Rattle.gl_machine.specs.RenewCode.{Runs, by_values, fresh_item_as}
use Rattle.gl_machine.specs.Step.{run_for_as}
use Rattle.gl_guards.specs.Along.{along_list_as}
use Rattle.gl_guards.specs.AlongAsks.{gone_along, stay_count, stay_asks_as, together, along_asks_as, along_asks_in, along_asks_body, along_asks_items}
use Rattle.gl_guards.specs.Guarded.{given_as}
use Rattle.gl_guards.specs.Questions.{OldItem}
use Rattle.gl_vm.specs.View.{Tables, Agrees, state_of}
use Rattle.gl_vm.specs.declared.vm.Vm.{Vm}
use Rattle.gl_code.specs.Cells.{CellList, store_of}
use Rattle.gl_code.specs.CodeView.{seen_item_code, all_items}
use Rattle.gl_code.specs.declared.code.ItemCode.{ItemCode}
use Rattle.gl_code.specs.Tables.{tables_of, env_of}
use Rattle.gl_update.specs.ListItems.{Item, handle}

-- What the plain machine counts, where `run` appends a body.
abbrev pub Count : Type 0
Count = Tables → Runs → State → ℕ

-- Where bodies are appended within so many steps or more, so many more were asked.
pub record AsksTo (env : Env) (store : Store) (f : Runs → State → ℕ) (st : State) (before after : ℕ) : Type 0 where
  pub steps : ℕ
  pub is : (k : ℕ) → steps ≤ k → after ≡ before + f (run_for_as by_number env store k) st

-- It is so in this application, whichever its templates are, over these cells, whichever sources were touched.
abbrev pub Asks : App → CellList → Count → Vm → ℕ → ℕ → Type 0
Asks a cells f old before after =
    (templates : List Body) → NamesRise (manifest_view a.manifest) → (touched : Source → Bool) → Agrees touched old → let env = env_of a templates in let n = tables_of env.manifest in
    AsksTo env (store_of env.app cells) (f n) (state_of n old touched) before after

-- What was asked once a region was gone along: what was asked before it where nothing was evaluated in it, and else what was asked with it.
abbrev pub closed : ℕ → ℕ → Bool → ℕ
closed before inside same = if same then before else inside

-- Of a body.
abbrev pub AsksIn : ℕ → Path → (Tables → Codes) → Count
AsksIn m p cs = λ n run. along_asks_in by_number run m p 0 (cs n)

-- Of a body that is a region.
abbrev pub AsksBody : ℕ → Path → (Tables → Codes) → Count
AsksBody m p cs = λ n run. along_asks_body by_number run m p (cs n)

-- Of a statement.
abbrev pub AsksCode : ℕ → Path → (Tables → Code) → Count
AsksCode m p c = λ n run. along_asks_as by_number run m p (c n)

-- Of the items of a list, that are walked along in order.
abbrev pub AsksItems : ℕ → Path → (Tables → List Item) → Count
AsksItems m p xs = λ n run. along_asks_items by_number run m p (all_items (xs n))

-- Of the items of a list as a region.
abbrev pub AsksList : ℕ → Path → (Tables → List Item) → Count
AsksList m p xs = λ n run st. gone_along st (along_list_as by_number run m p (all_items (xs n)) st) (along_asks_items by_number run m p (all_items (xs n)) st)

-- Of an old item that is given another value and index, and of the item of an entry: nothing is asked of a new one.
abbrev pub AsksKept : ℕ → Path → Entry → (Tables → Item) → Count
AsksKept m p e x = λ n run st. AsksBody m p (λ t. (x t).1.1) n run (given_as by_number p e (handle run m (x n)) st)

abbrev pub AsksOne : ℕ → Path → Entry → Option ItemCode → Count
AsksOne m p e None = λ n run st. 0
AsksOne m p e (Some x) = AsksKept m p e (λ n. seen_item_code n x)

-- old items, with what is asked in them
abbrev pub old_item : Runs → ℕ → Item → OldItem
old_item run m x = record { handle = handle run m x; asks = λ q st. along_asks_in by_number run m q 0 x.1.1 st }

abbrev pub old_items : Runs → ℕ → List Item → List OldItem
old_items run m [] = []
old_items run m (x ∷ xs) = old_item run m x ∷ old_items run m xs

module _ (z : Tables → Listing) (m : ℕ) (p : Path) where
  -- Of the items of a list that become those of these entries, each by itself.
  abbrev pub AsksStaying : List Entry → (Tables → List Item) → Count
  AsksStaying es xs = λ n run st. stay_asks_as by_number (fresh_item_as by_number run (z n) m) p es (old_items run m (xs n)) st

  -- Of them together.
  abbrev pub AsksSync : List Entry → (Tables → List Item) → Count
  AsksSync es xs = λ n run st. together (stay_count es (old_items run m (xs n))) (stay_asks_as by_number (fresh_item_as by_number run (z n) m) p es (old_items run m (xs n)) st)

-- Of a list with items whose position was asked already: that is read again,
abbrev pub AsksRelist : (Tables → Listing) → Spot → ℕ → Path → (Tables → List Item) → Count
AsksRelist z s m p xs = λ n run st.
    let st1 = reread s.ref st in by_values (values_listed (first_value (spot_pairs st1 s.ref))) (λ vs. AsksSync z m (items ∷ p) (entries (z n).key 0 [] vs) xs n run st1) 0

-- and in either way.
abbrev pub AsksListed : (Tables → Listing) → Spot → ℕ → Path → (Tables → List Item) → Count
AsksListed z s m p xs = λ n run st. if is_stale st s.ref then AsksRelist z s m p xs n run st else AsksList m (items ∷ p) xs n run st

-- Of a list without items whose position was asked already.
abbrev pub AsksUnlisted : Spot → ℕ → Path → (Tables → Codes) → Count
AsksUnlisted s m p cs = λ n run st. let st1 = reread s.ref st in by_values (values_listed (first_value (spot_pairs st1 s.ref))) (λ vs. 0) (AsksBody m (otherwise ∷ p) cs n run st1)
