-- Whether a node stands in what was rendered.
use Rattle.std.proofs.Common.{◌≡◌, ℕ, zero, suc, ◌+◌, ◌<◌, ◌≤◌, Bool, true, false, List, [], ◌∷◌, Option, map, drop, length, get_or, drop-cons, add-one, refl, sym, ◌∙◌, ap, arith}
use Rattle.std.specs.Prelude.{◌||◌}
use Rattle.std.specs.declared.rc.Rc.{Rc}
use Rattle.std.specs.declared.alloc.Global.{Global}
use Rattle.gl_arena.specs.Id.{Id}
use Rattle.gl_base.specs.Texts.{Text}
use Rattle.gl_plain.specs.Live.{ItemSpot, has_node, have_node}
use Rattle.gl_machine.specs.Code as c
use Rattle.gl_vm.specs.View.{Tables}
use Rattle.gl_code.specs.CodeView.{code_step, codes_step, item_step, all_codes, seen_code, seen_codes, seen_item_code}
use Rattle.gl_code.specs.declared.code.Code.{Code, map-Code, fold-roll-Code}
use Rattle.gl_code.specs.declared.code.Code.TheOpen.{Code-F}
use Rattle.gl_code.specs.declared.code.Code.TheViews as view
use Rattle.gl_code.specs.declared.code.Codes.{Codes, fold_out-Codes}
use Rattle.gl_code.specs.declared.code.ItemCode.{ItemCode}
use Rattle.gl_code.specs.declared.sight.Owner.{Owner}

abbrev pub has : Tables → Code → Bool
has n x = has_node (c.live_of (seen_code n x))

abbrev pub have : Tables → List Code → Bool
have n xs = have_node (c.lives_of (all_codes (map (seen_code n) xs)))

-- A `let`, a component, the root or a yielded block has those that stand in its body.

abbrev opened : Tables → Code-F Code Codes ItemCode → Bool
opened n y = has_node (c.live_of (code_step n (map-Code Code Codes ItemCode c.Code c.Codes (ItemSpot × (Option ℕ × c.Codes)) (seen_code n) (seen_codes n) (seen_item_code n) y)))

has_as : (n : Tables) (x : Code) (y : Code-F Code Codes ItemCode) → view.roll-Code y ≡ x → has n x ≡ opened n y
has_as n x y e = ap (has n) (sym e) ∙ ap (λ z. has_node (c.live_of z)) (fold-roll-Code c.Code c.Codes (ItemSpot × (Option ℕ × c.Codes)) (code_step n) codes_step item_step y)

pub in_let : (n : Tables) (made params : List Id) (body : Codes) → has n (view.Let made params body) ≡ have_node (c.lives_of (seen_codes n body))
in_let n made params body = has_as n (view.Let made params body) (Code-F.Let made params body) (view.rolls-Let made params body)

pub in_component : (n : Tables) (o : Rc Owner Global) (b : Id) (made : List Id) (args : Rc (List (Text × Id)) Global) (body : Codes) → has n (view.Component o b made args body) ≡ have_node (c.lives_of (seen_codes n body))
in_component n o b made args body = has_as n (view.Component o b made args body) (Code-F.Component o b made args body) (view.rolls-Component o b made args body)

pub in_root : (n : Tables) (o : Rc Owner Global) (body : Codes) → has n (view.Root o body) ≡ have_node (c.lives_of (seen_codes n body))
in_root n o body = has_as n (view.Root o body) (Code-F.Root o body) (view.rolls-Root o body)

pub in_yield : (n : Tables) (name : Text) (made params : List Id) (body : Codes) → has n (view.Yield name made params body) ≡ have_node (c.lives_of (seen_codes n body))
in_yield n name made params body = has_as n (view.Yield name made params body) (Code-F.Yield name made params body) (view.rolls-Yield name made params body)

-- A body has those that stand in one of its codes.

pub in_codes : (n : Tables) (x : Codes) (xs : List Code) → xs ≡ x.list.items → have_node (c.lives_of (seen_codes n x)) ≡ have n xs
in_codes n x xs e = ap (λ y. have_node (c.lives_of y)) (fold_out-Codes c.Code c.Codes (ItemSpot × (Option ℕ × c.Codes)) (code_step n) codes_step item_step x) ∙ ap (have n) (sym e)

one_more : (n : Tables) (xs : List Code) (i : ℕ) (x : Code) → i < length xs → x ≡ get_or xs i x → have n (drop i xs) ≡ (has n x || have n (drop (suc i) xs))
one_more n xs i x l is = ap (have n) (drop-cons xs i x l) ∙ ap (λ y. has n y || have n (drop (suc i) xs)) (sym is)

-- the one at a place has a node
pub node_at : (n : Tables) (xs : List Code) (i : ℕ) (x : Code) → i < length xs → x ≡ get_or xs i x → has n x ≡ true → have n (drop i xs) ≡ true
node_at n xs i x l is e = one_more n xs i x l is ∙ ap (λ b. b || have n (drop (suc i) xs)) e

-- it has none
pub node_after : (n : Tables) (xs : List Code) (i : ℕ) (x : Code) → i < length xs → x ≡ get_or xs i x → has n x ≡ false → have n (drop i xs) ≡ have n (drop (i + 1) xs)
node_after n xs i x l is e = one_more n xs i x l is ∙ (ap (λ b. b || have n (drop (suc i) xs)) e ∙ ap (λ j. have n (drop j xs)) (sym (add-one i)))

-- there is no more
pub none_after : (n : Tables) (xs : List Code) (i : ℕ) → length xs ≤ i → have n (drop i xs) ≡ false
none_after n [] zero l = refl
none_after n [] (suc i) l = refl
none_after n (x ∷ xs) zero l = absurd (omega (arith, l))
none_after n (x ∷ xs) (suc i) l = none_after n xs i (omega (arith, l))
