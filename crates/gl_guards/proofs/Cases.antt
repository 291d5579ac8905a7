-- Worked pages by numbers: which positions an update evaluates that passes over what is fresh. In each part that is to be passed over stands a
-- component for which no level is left: an update that goes in there is lost.
use Rattle.std.proofs.Common.{◌≡◌, ℕ, List, [], ◌∷◌, true, false, Option, Some, None, refl}
use Rattle.std.specs.Prelude.{pos}
use Rattle.gl_value.specs.Value.{integer}
use Rattle.gl_meaning.specs.Path.{at}
use Rattle.gl_meaning.specs.Scope.{Source}
use Rattle.gl_plain.specs.Ids.{a_ref, ref, hit}
use Rattle.gl_plain.specs.State.{any_of, source_form, all_form, row, Form, State, make, touch}
use Rattle.gl_plain.specs.Naming.{by_number}
use Rattle.gl_plain.specs.Binding.{Spot}
use Rattle.gl_plain.specs.Live.{ItemSpot}
use Rattle.gl_plain.specs.Turns.{blank, begin}
use Rattle.gl_naming.specs.Numbered.{number}
use Rattle.gl_machine.specs.Sight.{Sight, sight, not_passed}
use Rattle.gl_machine.specs.Code.{Choice, Listing, Code, put_code, branch_code, listed_code, component_code, no_item_codes, item_code, Codes, no_codes, code_and}
use Rattle.gl_machine.specs.Outcome.{Outcome, ok, deep, lost}
use Rattle.gl_machine.specs.RenewCode.{Runs}
use Rattle.gl_machine.specs.Root.{renew_root_code_as}
use Rattle.gl_guards.specs.Guarded.{guarded_root_code_as}
use Rattle.gl_guards.specs.Questions.{root_asks_as}

-- nothing is appended
abbrev nothing : Runs
nothing s st = lost

abbrev nowhere : Sight
nowhere = sight 0 (record { id = 0; path = []; cells = [] }) [] [] not_passed

-- a reference of a form, which read the sources when it was evaluated last
abbrev with_row : Form → List Source → State → State
with_row x xs st = make a_ref (row (record { form = x; last = any_of xs })) st

abbrev spot : ℕ → Spot
spot r = record { ref = r; made = ref r ∷ [] }

-- a text in a node, at a position
abbrev text : ℕ → ℕ → Code
text n r = put_code n (spot r)

-- a component where none may stand
abbrev beyond : Code
beyond = component_code (record { id = 9; path = at 9 ∷ []; cells = [] }) [] [] [] None no_codes

abbrev two : Code → Code → Codes
two a b = code_and a (code_and b no_codes)

abbrev page : Codes → Code
page cs = component_code (record { id = 0; path = []; cells = [] }) [] [] [] None cs

-- the positions that were evaluated, in order
abbrev evaluated : Outcome (Code × State) → Option (List ℕ)
evaluated (ok r) = Some r.1.evaluated
evaluated deep = None
evaluated lost = None

-- one level of nesting is left for the page, and none in it
abbrev guarded : Code → State → Option (List ℕ)
guarded k st = evaluated (guarded_root_code_as by_number 1 nothing k st)

abbrev plainly : Code → State → Option (List ℕ)
plainly k st = evaluated (renew_root_code_as by_number 1 nothing k st)

-- Two branches

-- The cells 0 and 1, the conditions 2 and 3, which are true, and the positions 4 and 5 of texts that read the cells.
unfoldable branches : State
branches =
    with_row (all_form (1 ∷ [])) (number 1 ∷ []) (with_row (all_form (0 ∷ [])) (number 0 ∷ [])
    (with_row (all_form (1 ∷ [])) [] (with_row (all_form (0 ∷ [])) [] (with_row (source_form (number 1) (integer (pos 1))) [] (with_row (source_form (number 0) (integer (pos 1))) [] blank)))))

abbrev choice : Choice
choice = record { unless = false; first = 0; second = 0; sight = nowhere }

abbrev branch : ℕ → Codes → Code
branch r cs = branch_code choice (spot r) true None cs

unfoldable two_branches : Code
two_branches = page (two (branch 2 (two (text 7 4) (text 8 4))) (branch 3 (two (text 9 5) beyond)))

-- The first cell is set: the texts of the first branch are evaluated, and the second branch isn't entered.
one_branch : guarded two_branches (touch 0 (number 0) (integer (pos 2)) (begin branches)) ≡ Some (4 ∷ 4 ∷ [])
unfolding branches two_branches hit
one_branch = refl

-- Without guards it is.
both_branches : plainly two_branches (touch 0 (number 0) (integer (pos 2)) (begin branches)) ≡ None
unfolding branches two_branches hit
both_branches = refl

-- The second cell is set: now the second branch is entered.
other_branch : guarded two_branches (touch 1 (number 1) (integer (pos 2)) (begin branches)) ≡ None
unfolding branches two_branches hit
other_branch = refl

-- Nothing is set: the page isn't entered.
quiet : guarded two_branches (begin branches) ≡ Some []
unfolding branches two_branches hit
quiet = refl

-- how many questions are asked
abbrev asks : Code → State → ℕ
asks k st = root_asks_as by_number 1 nothing k st

-- That of the whole; of the first branch its condition, its region and two texts; of the second its condition and its region.
one_asks : asks two_branches (touch 0 (number 0) (integer (pos 2)) (begin branches)) ≡ 7
unfolding branches two_branches hit
one_asks = refl

quiet_asks : asks two_branches (begin branches) ≡ 1
unfolding branches two_branches hit
quiet_asks = refl

-- A list

-- The items' values 0 and 2 and indexes 1 and 3, the list's position 4, and the positions 5 and 6 of the items' texts.
unfoldable listing_state : State
listing_state =
    with_row (all_form (2 ∷ [])) (number 2 ∷ []) (with_row (all_form (0 ∷ [])) (number 0 ∷ [])
    (with_row (all_form []) []
    (with_row (source_form (number 3) (integer (pos 1))) [] (with_row (source_form (number 2) (integer (pos 20))) []
    (with_row (source_form (number 1) (integer (pos 0))) [] (with_row (source_form (number 0) (integer (pos 10))) [] blank))))))

abbrev listing : Listing
listing = record { key = []; value = 0; index = 0; body = 0; other = 0; sight = nowhere }

abbrev item_spot : ℕ → ℕ → ItemSpot
item_spot v i = record { key = integer (pos v); occurrence = 0; value = v; index = i; more = []; params = [] }

unfoldable one_list : Code
one_list =
    page (code_and (listed_code listing (spot 4) (item_code (item_spot 0 1) None (code_and (text 7 5) no_codes) (item_code (item_spot 2 3) None (two (text 8 6) beyond) no_item_codes))) no_codes)

-- The first item's value is touched: its text is evaluated, and the second item isn't entered.
one_item : guarded one_list (touch 0 (number 0) (integer (pos 11)) (begin listing_state)) ≡ Some (5 ∷ [])
unfolding listing_state one_list hit
one_item = refl

-- The second item's is: it is entered.
other_item : guarded one_list (touch 2 (number 2) (integer (pos 21)) (begin listing_state)) ≡ None
unfolding listing_state one_list hit
other_item = refl

-- That of the whole, the list's position, that of its items, those of the two items, and the first one's text.
list_asks : asks one_list (touch 0 (number 0) (integer (pos 11)) (begin listing_state)) ≡ 6
unfolding listing_state one_list hit
list_asks = refl
