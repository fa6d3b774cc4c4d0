-- The posts and the news of a line: of an empty list, of an item before others, and of one list after another.
use Rattle.std.proofs.Common.{◌≡◌, ℕ, Bool, true, false, if◌then◌else◌, List, [], ◌∷◌, ◌++◌, Option, Some, None, refl, ap, sym, ◌∙◌, append_assoc}
use Rattle.std.specs.List.{cons_option}
use Rattle.mpt_trace.specs.declared.item.Down.{Down}
use Rattle.mpt_trace.specs.declared.item.Back.{Back}
use Rattle.mpt_rules.specs.declared.said.Said.{Said}
use Rattle.mpt_rules.specs.World.Lines.{high_post, normal_post, high_posts, normal_posts}
use Rattle.mpt_rules.specs.World.News.{is_notice_of, notices_of, news_in, events_of}

-- the posts of one priority
cons_option-append : {X : Type 0} (o : Option X) (xs ys : List X) → cons_option o (xs ++ ys) ≡ cons_option o xs ++ ys
cons_option-append None xs ys = refl
cons_option-append (Some x) xs ys = refl

pub high_posts-nil : high_posts [] ≡ []
unfolding high_posts
high_posts-nil = refl

pub high_posts-cons : (x : Down) (xs : List Down) → high_posts (x ∷ xs) ≡ cons_option (high_post x) (high_posts xs)
unfolding high_posts
high_posts-cons x xs = refl

pub high_posts-append : (xs ys : List Down) → high_posts (xs ++ ys) ≡ high_posts xs ++ high_posts ys
unfolding high_posts
high_posts-append [] ys = refl
high_posts-append (x ∷ xs) ys = ap (cons_option (high_post x)) (high_posts-append xs ys) ∙ cons_option-append (high_post x) (high_posts xs) (high_posts ys)

pub normal_posts-nil : normal_posts [] ≡ []
unfolding normal_posts
normal_posts-nil = refl

pub normal_posts-cons : (x : Down) (xs : List Down) → normal_posts (x ∷ xs) ≡ cons_option (normal_post x) (normal_posts xs)
unfolding normal_posts
normal_posts-cons x xs = refl

pub normal_posts-append : (xs ys : List Down) → normal_posts (xs ++ ys) ≡ normal_posts xs ++ normal_posts ys
unfolding normal_posts
normal_posts-append [] ys = refl
normal_posts-append (x ∷ xs) ys = ap (cons_option (normal_post x)) (normal_posts-append xs ys) ∙ cons_option-append (normal_post x) (normal_posts xs) (normal_posts ys)

-- the news of a disk
pub notices_of-nil : (address : ℕ) → notices_of address [] ≡ []
unfolding notices_of
notices_of-nil address = refl

pub notices_of-cons : (address : ℕ) (x : Back) (xs : List Back) → notices_of address (x ∷ xs) ≡ (if is_notice_of address x then x ∷ notices_of address xs else notices_of address xs)
unfolding notices_of
notices_of-cons address x xs = refl

pub notices_of-append : (address : ℕ) (xs ys : List Back) → notices_of address (xs ++ ys) ≡ notices_of address xs ++ notices_of address ys
unfolding notices_of
notices_of-append address [] ys = refl
notices_of-append address (x ∷ xs) ys = by_test (is_notice_of address x) (notices_of-append address xs ys)
  where
    by_test : (b : Bool) → notices_of address (xs ++ ys) ≡ notices_of address xs ++ notices_of address ys
        → (if b then x ∷ notices_of address (xs ++ ys) else notices_of address (xs ++ ys)) ≡ (if b then x ∷ notices_of address xs else notices_of address xs) ++ notices_of address ys
    by_test true h = ap (λ zs. x ∷ zs) h
    by_test false h = h

-- the news of a handle
pub events_of-nil : (handle : ℕ) → events_of handle [] ≡ []
unfolding events_of
events_of-nil handle = refl

pub events_of-cons : (handle : ℕ) (x : Said) (xs : List Said) → events_of handle (x ∷ xs) ≡ news_in handle x ++ events_of handle xs
unfolding events_of
events_of-cons handle x xs = refl

pub events_of-append : (handle : ℕ) (xs ys : List Said) → events_of handle (xs ++ ys) ≡ events_of handle xs ++ events_of handle ys
unfolding events_of
events_of-append handle [] ys = refl
events_of-append handle (x ∷ xs) ys = ap (λ zs. news_in handle x ++ zs) (events_of-append handle xs ys) ∙ sym (append_assoc (news_in handle x) (events_of handle xs) (events_of handle ys))

pub ruleset lines = (high_posts-nil, high_posts-cons, high_posts-append, normal_posts-nil, normal_posts-cons, normal_posts-append, notices_of-nil, notices_of-cons, notices_of-append, events_of-nil, events_of-cons, events_of-append)
