-- What a text stands for is allowed.
use Rattle.std.proofs.Common.{◌≡◌, ℕ, zero, suc, ◌≤◌, ◌==◌, ◌&&◌, ◌||◌, not, nat_le, nat_lt, Bool, true, false, cond, List, [], ◌∷◌, length, slice_index, Option, Some, None, Result, Ok, Err, refl, ◌∙◌, ap, subst, arith, lit≤}
use Rattle.std.specs.List.{list_all}
use Rattle.std.proofs.lemmas.Bool.{and_parts}
use Rattle.std.proofs.lemmas.Grind.{common_steps}
use Rattle.std.proofs.lemmas.List.Folds.{list_all-append}
use Rattle.mpt_lines.specs.declared.fault.Cause.{Cause}
use Rattle.mpt_lines.specs.declared.fault.Cause.TheVariants.{Again, Many, Name, Order}
use Rattle.mpt_lines.specs.declared.statement.Statement.{Statement}
use Rattle.mpt_lines.specs.declared.statement.Statement.TheVariants as statement
use Rattle.mpt_lines.specs.Numbers.{◌>>=◌}
use Rattle.mpt_lines.specs.Statements.{schedule_line}
use Rattle.mpt_lines.specs.Words.{words}
use Rattle.mpt_trace.specs.declared.input.Input.{Input}
use Rattle.mpt_trace.specs.declared.input.Input.TheVariants as input
use Rattle.mpt_script.specs.declared.line.Line.{Line}
use Rattle.mpt_script.specs.Allowed.{are_allowed, input_fits, input_statement, is_byte, is_host, is_schedule, is_unrefused, line_fits, statement_fits, statement_of}
use Rattle.mpt_script.specs.Declarations.{Declared, after, has_disk, has_phy, is_misplaced, is_repeated, is_steps, is_too_many, is_unknown, judged, line_of, nothing_declared}
use Rattle.mpt_script.specs.Schedules.{Fault, before, declared_after, line_before, line_value, next_number, says_nothing, schedule_from, schedule_of}
use Rattle.mpt_script.proofs.Accepted.{bind_ok, ok_value, refused, schedule_line_fits}

-- no cause holds of an answered statement, and the line is its own
pub record Answered (d : Declared) (said : Statement) (l : Line) : Type 0 where
  pub placed : is_misplaced d said ≡ false
  pub new : is_repeated d said ≡ false
  pub within : is_too_many d said ≡ false
  pub known : is_unknown d said ≡ false
  pub line : line_of said ≡ l

pub by_causes : (a b c e : Bool) (x l : Line) → cond a (Err Order) (cond b (Err Again) (cond c (Err Many) (cond e (Err Name) (Ok x)))) ≡ Ok l → (a ≡ false) × (b ≡ false) × (c ≡ false) × (e ≡ false) × (x ≡ l)
by_causes true b c e x l h = refused Order l _ h
by_causes false true c e x l h = refused Again l _ h
by_causes false false true e x l h = refused Many l _ h
by_causes false false false true x l h = refused Name l _ h
by_causes false false false false x l h = (refl, refl, refl, refl, ok_value x l h)

answered : (d : Declared) (said : Statement) (l : Line) → judged d said ≡ Ok l → Answered d said l
answered d said l h =
    let parts = by_causes (is_misplaced d said) (is_repeated d said) (is_too_many d said) (is_unknown d said) (line_of said) l h in
    record { placed = parts.0; new = parts.1; within = parts.2; known = parts.3; line = parts.4 }

-- there are few expanders, and few phys of each
pub record Sound (d : Declared) : Type 0 where
  pub few : length d.phys ≤ 16
  pub narrow : list_all (λ p. nat_le p 22) d.phys ≡ true

narrow_at : (phys : List ℕ) (k : ℕ) → list_all (λ p. nat_le p 22) phys ≡ true → slice_index phys k ≤ 22
narrow_at [] k h = lit≤ tt
narrow_at (p ∷ phys) zero h =
    let here = (and_parts (nat_le p 22) (list_all (λ q. nat_le q 22) phys) h).0 in
    narrow_here p here
  where
    narrow_here : (q : ℕ) → nat_le q 22 ≡ true → q ≤ 22
    narrow_here q is = grind (arith, common_steps, is)
narrow_at (p ∷ phys) (suc k) h = narrow_at phys k (and_parts (nat_le p 22) (list_all (λ q. nat_le q 22) phys) h).1

pub or_parts : (a b : Bool) → (a || b) ≡ false → (a ≡ false) × (b ≡ false)
or_parts true b h = cc
or_parts false b h = (refl, h)

pub not_false : (a : Bool) → not a ≡ false → a ≡ true
not_false true h = refl
not_false false h = cc

-- an answered plug names an expander and a phy of one byte
plug_small : (d : Declared) (at e phy : ℕ) → Sound d → is_unknown d (statement.Plug at e phy) ≡ false → (is_byte e ≡ true) × (is_byte phy ≡ true)
plug_small d at e phy s h =
    let there = (and_parts (has_disk d at) (has_phy d e phy) (not_false _ h)).1 in
    let parts = and_parts (nat_lt e (length d.phys)) (nat_lt phy (slice_index d.phys e)) there in
    let few = s.few in
    let narrow = narrow_at d.phys e s.narrow in
    (grind (arith, common_steps, parts.0, few), grind (arith, common_steps, parts.1, narrow))

pub host_statement : (given : Input) → is_host given ≡ true → input_statement given ≡ statement.Host given
host_statement input.Start h = refl
host_statement (input.Submit n at f) h = refl
host_statement (input.Abort n) h = refl
host_statement (input.TargetReset at) h = refl
host_statement input.Reset h = refl
host_statement input.UnitReset h = refl
host_statement (input.Plug at e phy) h = cc
host_statement (input.Unplug at) h = cc

pub next_expander : (d : Declared) (number phys : ℕ) → is_misplaced d (statement.Expander number phys) ≡ false → length d.phys ≡ number
next_expander d number phys h =
    let other = (or_parts (is_steps d.stage) (not (number == length d.phys)) h).1 in
    let same = not_false (number == length d.phys) other in
    grind (arith, common_steps, same)

-- the statement that its line is
same_statement : (d : Declared) (said : Statement) → statement_fits said ≡ true → is_misplaced d said ≡ false → statement_of d (line_of said) ≡ said
same_statement d (statement.Queues queues) h k = refl
same_statement d (statement.Disk disk) h k = refl
same_statement d (statement.Expander number phys) h k = ap (λ n. statement.Expander n phys) (next_expander d number phys k)
same_statement d (statement.Plug at e phy) h k = refl
same_statement d (statement.Unplug at) h k = refl
same_statement d (statement.Host given) h k = host_statement given (and_parts (is_host given) (input_fits given) h).0
same_statement d (statement.Choice choice count) h k = refl
same_statement d statement.Drain h k = refl

pub fitting_line : (d : Declared) (said : Statement) → Sound d → statement_fits said ≡ true → is_unknown d said ≡ false → line_fits (line_of said) ≡ true
fitting_line d (statement.Queues queues) s h k = h
fitting_line d (statement.Disk disk) s h k = h
fitting_line d (statement.Expander number phys) s h k = h
fitting_line d (statement.Plug at e phy) s h k =
    let small = plug_small d at e phy s k in
    rw (h, small.0, small.1) refl
fitting_line d (statement.Unplug at) s h k = h
fitting_line d (statement.Host given) s h k = (and_parts (is_host given) (input_fits given) h).1
fitting_line d (statement.Choice choice count) s h k = h
fitting_line d statement.Drain s h k = refl

-- an answered line is allowed
allowed_line : (d : Declared) (said : Statement) (l : Line) → Sound d → statement_fits said ≡ true → Answered d said l → (line_fits l && is_unrefused d (statement_of d l)) ≡ true
allowed_line d said l s h a =
    let fits = fitting_line d said s h a.known in
    let same = same_statement d said h a.placed in
    subst (λ (m : Line). (line_fits m && is_unrefused d (statement_of d m)) ≡ true) a.line
    (rw (fits, same, a.placed, a.new, a.within, a.known) refl)

-- after an answered line there are few expanders still
pub sound_after : (d : Declared) (said : Statement) → Sound d → statement_fits said ≡ true → is_too_many d said ≡ false → Sound (after d (line_of said))
sound_after d (statement.Queues queues) s h k = record { few = s.few; narrow = s.narrow }
sound_after d (statement.Disk disk) s h k = record { few = s.few; narrow = s.narrow }
sound_after d (statement.Expander number phys) s h k =
    let one = (and_parts (nat_le 1 phys) (nat_le phys 22) h).1 in
    record {
      few = grind (arith, common_steps, k);
      narrow = list_all-append (λ p. nat_le p 22) d.phys (phys ∷ []) ∙ (rw (s.narrow, one) refl);
    }
sound_after d (statement.Plug at e phy) s h k = record { few = s.few; narrow = s.narrow }
sound_after d (statement.Unplug at) s h k = record { few = s.few; narrow = s.narrow }
sound_after d (statement.Host given) s h k = record { few = s.few; narrow = s.narrow }
sound_after d (statement.Choice choice count) s h k = record { few = s.few; narrow = s.narrow }
sound_after d statement.Drain s h k = record { few = s.few; narrow = s.narrow }

-- what a line that says something said
said_by : (b : Bool) (found : Result Statement Cause) (d : Declared) (l : Line) → cond b (Ok None) (found >>= judged d >>= (λ value. Ok (Some value))) ≡ Ok (Some l) → (said : Statement) × (found ≡ Ok said) × (judged d said ≡ Ok l)
said_by true found d l h = cc
said_by false (Err cause) d l h = cc
said_by false (Ok said) d l h =
    let j = bind_ok (judged d said) _ (Some l) h in
    (said, refl, j.1 ∙ ap Ok (some_value j.0 l (ok_value (Some j.0) (Some l) j.2)))
  where
    some_value : (x y : Line) → Some x ≡ Some y → x ≡ y
    some_value x y e = cc

before_ok : (l : Line) (r : Result (List Line) Fault) (ls : List Line) → before l r ≡ Ok ls → (others : List Line) × (r ≡ Ok others) × (l ∷ others ≡ ls)
before_ok l (Ok others) ls h = (others, refl, cc)
before_ok l (Err fault) ls h = cc

ok_lines : (xs ys : List Line) → (let r : Result (List Line) Fault = Ok xs in r) ≡ Ok ys → xs ≡ ys
ok_lines xs ys e = cc

no_lines : (d : Declared) (ls : List Line) → (let r : Result (List Line) Fault = Ok [] in r) ≡ Ok ls → are_allowed d ls ≡ true
unfolding are_allowed
no_lines d ls e = subst (λ (xs : List Line). are_allowed d xs ≡ true) (ok_lines [] ls e) refl

last_lines : (b : Bool) (d : Declared) (fault : Fault) (ls : List Line) → cond b (Ok []) (Err fault) ≡ Ok ls → are_allowed d ls ≡ true
last_lines true d fault ls e = no_lines d ls e
last_lines false d fault ls e = cc

-- the lines of a text are allowed
pub read_allowed : (number : ℕ) (d : Declared) (pieces : List (List ℕ)) (ls : List Line) → Sound d → schedule_from number d pieces ≡ Ok ls → are_allowed d ls ≡ true
unfolding schedule_from are_allowed
read_allowed number d [] ls s h = no_lines d ls h
read_allowed number d (rest ∷ []) ls s h = last_lines (length rest == 0) d _ ls h
read_allowed number d (text ∷ next ∷ others) ls s h = went (line_value d text) refl h (λ d' ls' s' h'. read_allowed (next_number number) d' (next ∷ others) ls' s' h')
  where
    went : (r : Result (Option Line) Cause) → line_value d text ≡ r → line_before number r (schedule_from (next_number number) (declared_after d r) (next ∷ others)) ≡ Ok ls
        → ((d' : Declared) (ls' : List Line) → Sound d' → schedule_from (next_number number) d' (next ∷ others) ≡ Ok ls' → are_allowed d' ls' ≡ true) → are_allowed d ls ≡ true
    went (Err cause) is e rest_allowed = cc
    went (Ok None) is e rest_allowed = rest_allowed d ls s e
    went (Ok (Some l)) is e rest_allowed =
        let said = said_by (says_nothing text) (schedule_line (words text)) d l is in
        let fits = schedule_line_fits (words text) said.0 said.1 in
        let a = answered d said.0 l said.2 in
        let rest = before_ok l _ ls e in
        let sound = subst (λ (m : Line). Sound (after d m)) a.line (sound_after d said.0 s fits a.within) in
        let rest_is = rest_allowed (after d l) rest.0 sound rest.1 in
        subst (λ (xs : List Line). are_allowed d xs ≡ true) rest.2 (rw (allowed_line d said.0 l s fits a, rest_is) refl)

pub schedule_allowed : (text : List ℕ) (ls : List Line) → schedule_of text ≡ Ok ls → is_schedule ls ≡ true
schedule_allowed text ls h = read_allowed 1 nothing_declared _ ls (record { few = lit≤ tt; narrow = refl }) h
