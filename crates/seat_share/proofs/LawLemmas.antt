-- Hamilton's method keeps the quota, and divisor methods are house-monotone.
use Rattle.std.proofs.Common.{◌≡◌, ℕ, suc, ◌+◌, ◌-◌, ◌*◌, ◌<◌, ◌≤◌, ◌==◌, ◌⊎◌, ◌&&◌, ◌||◌, Bool, true, false, List, [], ◌∷◌, ◌++◌, refl, sym, ap, subst, ◌∙◌, inl, inr, arith, map, sum, sum_by, length, zip, mul_comm}
use Rattle.std.specs.List.{list_all, AllByRecursion}
use Rattle.std.proofs.lemmas.List.Sums.{sum_by-cons}
use Rattle.seat_share.specs.declared.method.Method.{Method}
use Rattle.seat_share.specs.declared.method.Method.TheVariants.{Hamilton, Dhondt, SainteLague, Huntington, Adams, Dean}
use Rattle.seat_share.specs.Quotients.{Quotient, quotient, is_at_least}
use Rattle.seat_share.specs.Fair.{Party, quota_seats, remainder, is_near_quota, has_the_remainder, has_votes_for_seats, is_right, IsFair, keeps_its_seat}
use Rattle.seat_share.proofs.Order.{absurd, at_least-total, at_least-trans, some_is, zero_is}
use Rattle.seat_share.proofs.Members.{Has, all-member, all-from_members, sums-lt, and-left, and-right, both}
use Rattle.seat_share.proofs.Threshold.{none_or_some, either, impossible}
use Rattle.seat_share.proofs.ClaimLemmas.{claims-fall}
use Rattle.seat_share.proofs.QuotaLemmas.{sum-times, near, remains, parts, rest-small}

equal : (a b : ℕ) → (a == b) ≡ true → a ≡ b
equal a b h = grind arith

-- ---- what a fair allocation is
pub record Facts (method : Method) (votes allocation : List ℕ) (seats : ℕ) : Type 0 where
  pub long : length allocation ≡ length votes
  pub all : sum allocation ≡ seats
  pub earned : list_all has_votes_for_seats (zip votes allocation) ≡ true
  pub right : is_right method (sum votes) seats (zip votes allocation) ≡ true

pub facts : (method : Method) (votes allocation : List ℕ) (seats : ℕ) → IsFair method votes seats allocation → Facts method votes allocation seats
facts method votes allocation seats fair =
    let whole = fair in
    let right = and-right (length allocation == length votes && sum allocation == seats && list_all has_votes_for_seats (zip votes allocation)) (is_right method (sum votes) seats (zip votes allocation)) whole in
    let front = and-left (length allocation == length votes && sum allocation == seats && list_all has_votes_for_seats (zip votes allocation)) (is_right method (sum votes) seats (zip votes allocation)) whole in
    let earned = and-right (length allocation == length votes && sum allocation == seats) (list_all has_votes_for_seats (zip votes allocation)) front in
    let counts = and-left (length allocation == length votes && sum allocation == seats) (list_all has_votes_for_seats (zip votes allocation)) front in
    record {
      long = equal (length allocation) (length votes) (and-left (length allocation == length votes) (sum allocation == seats) counts);
      all = equal (sum allocation) seats (and-right (length allocation == length votes) (sum allocation == seats) counts);
      earned = earned;
      right = right;
    }

fair-from_facts : (method : Method) (votes allocation : List ℕ) (seats : ℕ) → Facts method votes allocation seats → IsFair method votes seats allocation
fair-from_facts method votes allocation seats f =
    let long : (length allocation == length votes) ≡ true = let h = f.long in grind (arith, h) in
    let all : (sum allocation == seats) ≡ true = let h = f.all in grind (arith, h) in
    both _ _ (both _ _ (both _ _ long all) f.earned) f.right

zip-votes : (votes list : List ℕ) → length list ≡ length votes → sum_by (λ (p : Party). p.0) (zip votes list) ≡ sum votes
zip-votes [] list h = refl
zip-votes (v ∷ votes) [] h = impossible (omega (arith, h))
zip-votes (v ∷ votes) (a ∷ list) h =
    sum_by-cons (λ (p : Party). p.0) (v, a) (zip votes list) ∙ ap (λ n. v + n) (zip-votes votes list (omega (arith, h))) ∙ sym (sum_by-cons (λ x. x) v votes)

zip-seats : (votes list : List ℕ) → length list ≡ length votes → sum_by (λ (p : Party). p.1) (zip votes list) ≡ sum list
zip-seats [] [] h = refl
zip-seats [] (a ∷ list) h = impossible (omega (arith, h))
zip-seats (v ∷ votes) [] h = impossible (omega (arith, h))
zip-seats (v ∷ votes) (a ∷ list) h =
    sum_by-cons (λ (p : Party). p.1) (v, a) (zip votes list) ∙ ap (λ n. a + n) (zip-seats votes list (omega (arith, h))) ∙ sym (sum_by-cons (λ x. x) a list)

each : {X : Type 0} (P : X → Type 0) (xs : List X) → ((x : X) → Has xs x → P x) → AllByRecursion P xs
each P [] f = tt
each P (x ∷ xs) f = (f x (inl refl), each P xs (λ y here. f y (inr here)))

-- ---- the quota
module _ (total seats : ℕ) (some : 0 < total) (ps : List Party) (votes : sum_by (λ (p : Party). p.0) ps ≡ total) (all : sum_by (λ (p : Party). p.1) ps ≡ seats)
    (nears : (x : Party) → Has ps x → is_near_quota total seats x ≡ true) (rests : (x y : Party) → Has ps x → Has ps y → has_the_remainder total seats x y ≡ true) where
  balance : sum_by (λ (p : Party). p.0 * seats) ps ≡ sum_by (λ (p : Party). p.1 * total) ps
  balance = sum-times (λ p. p.0) seats ps ∙ ap (λ n. n * seats) votes ∙ mul_comm total seats ∙ ap (λ n. n * total) (sym all) ∙ sym (sum-times (λ p. p.1) total ps)

  -- a party with one seat more has a remainder
  remainder-some : (x : Party) → Has ps x → x.1 ≡ quota_seats total seats x.0 + 1 → 0 < remainder total seats x.0
  remainder-some x hx one = elim (none_or_some (remainder total seats x.0)) [
    | inr h ↦ h
    | inl none ↦
        let px = parts total seats some x.0 in
        let onex : (quota_seats total seats x.0 + 1) * total ≡ quota_seats total seats x.0 * total + total = omega arith in
        let hxt : x.1 * total ≡ quota_seats total seats x.0 * total + total = ap (λ n. n * total) one ∙ onex in
        let others : (y : Party) → Has ps y → y.0 * seats ≤ y.1 * total = λ y hy.
        let py = parts total seats some y.0 in
        elim (near total seats some y (nears y hy)) [
          | inl ey ↦
              let hyt : y.1 * total ≡ quota_seats total seats y.0 * total = ap (λ n. n * total) ey in
              let rest = remains total seats some x y (rests x y hx hy) one ey in
              omega (arith, py, hyt, rest, none)
          | inr ey ↦
              let oney : (quota_seats total seats y.0 + 1) * total ≡ quota_seats total seats y.0 * total + total = omega arith in
              let hyt : y.1 * total ≡ quota_seats total seats y.0 * total + total = ap (λ n. n * total) ey ∙ oney in
              omega (arith, py, hyt, rest-small total seats some y.0)
        ] in
        let fewer = sums-lt (λ (p : Party). p.0 * seats) (λ (p : Party). p.1 * total) ps x hx (omega (arith, px, hxt, none, some)) others in
        impossible (omega (arith, fewer, balance))
  ]

  near-quota : (x : Party) → Has ps x → (x.0 * seats < (x.1 + 1) * total) × (x.1 * total < x.0 * seats + total)
  near-quota x hx =
      let px = parts total seats some x.0 in
      let small = rest-small total seats some x.0 in
      let next : (x.1 + 1) * total ≡ x.1 * total + total = omega arith in
      elim (near total seats some x (nears x hx)) [
        | inl ex ↦
            let hxt : x.1 * total ≡ quota_seats total seats x.0 * total = ap (λ n. n * total) ex in
            (omega (arith, px, small, next, hxt), omega (arith, px, hxt, some))
        | inr ex ↦
            let onex : (quota_seats total seats x.0 + 1) * total ≡ quota_seats total seats x.0 * total + total = omega arith in
            let hxt : x.1 * total ≡ quota_seats total seats x.0 * total + total = ap (λ n. n * total) ex ∙ onex in
            (omega (arith, px, small, next, hxt), omega (arith, px, hxt, remainder-some x hx ex))
      ]

pub keeps-the_quota : (votes allocation : List ℕ) (seats : ℕ) → 0 < sum votes → IsFair Hamilton votes seats allocation
    → AllByRecursion (λ (party : Party). (party.0 * seats < (party.1 + 1) * sum votes) × (party.1 * sum votes < party.0 * seats + sum votes)) (zip votes allocation)
keeps-the_quota votes allocation seats some fair =
    let f = facts Hamilton votes allocation seats fair in
    let ps : List Party = zip votes allocation in
    let nears = and-left (list_all (is_near_quota (sum votes) seats) ps) _ f.right in
    let rests = and-right (list_all (is_near_quota (sum votes) seats) ps) _ f.right in
    each (λ (party : Party). (party.0 * seats < (party.1 + 1) * sum votes) × (party.1 * sum votes < party.0 * seats + sum votes)) ps
    (near-quota (sum votes) seats some ps (zip-votes votes allocation f.long) (zip-seats votes allocation f.long ∙ f.all)
    (λ x hx. all-member (is_near_quota (sum votes) seats) ps x nears hx)
    (λ x y hx hy. all-member (has_the_remainder (sum votes) seats x) ps y (all-member (λ z. list_all (has_the_remainder (sum votes) seats z) ps) ps x rests hx) hy))

-- ---- house monotony
quotients-fall : (method : Method) → (method ≡ Hamilton → ⊥) → (v s : ℕ) → 0 < v → is_at_least (quotient method v (s + 1)) (quotient method v s) ≡ false
quotients-fall Hamilton other v s some = impossible (other refl)
quotients-fall Dhondt other v s some = claims-fall Dhondt 1 (s + 1) (omega arith) v s some (omega arith)
quotients-fall SainteLague other v s some = claims-fall SainteLague 1 (s + 1) (omega arith) v s some (omega arith)
quotients-fall Huntington other v s some = claims-fall Huntington 1 (s + 1) (omega arith) v s some (omega arith)
quotients-fall Adams other v s some = claims-fall Adams 1 (s + 1) (omega arith) v s some (omega arith)
quotients-fall Dean other v s some = claims-fall Dean 1 (s + 1) (omega arith) v s some (omega arith)

right-pairs : (method : Method) → (method ≡ Hamilton → ⊥) → (total seats : ℕ) (ps : List Party) → is_right method total seats ps ≡ list_all (λ x. list_all (keeps_its_seat method x) ps) ps
right-pairs Hamilton other total seats ps = impossible (other refl)
right-pairs Dhondt other total seats ps = refl
right-pairs SainteLague other total seats ps = refl
right-pairs Huntington other total seats ps = refl
right-pairs Adams other total seats ps = refl
right-pairs Dean other total seats ps = refl

keeps-order : (method : Method) (x y : Party) → keeps_its_seat method x y ≡ true → 0 < x.0 → 0 < y.0 → 0 < x.1 → is_at_least (quotient method x.0 (x.1 - 1)) (quotient method y.0 y.1) ≡ true
keeps-order method x y h xv yv xs = rw (some_is x.0 xv, some_is y.0 yv, some_is x.1 xs) at h

order-keeps : (method : Method) (x y : Party) → (0 < x.0 → 0 < y.0 → 0 < x.1 → is_at_least (quotient method x.0 (x.1 - 1)) (quotient method y.0 y.1) ≡ true) → keeps_its_seat method x y ≡ true
order-keeps method x y h = elim (none_or_some x.0) [
  | inl none ↦ rw (zero_is x.0 none) refl
  | inr xv ↦ elim (none_or_some y.0) [
    | inl none ↦ second (x.0 == 0) (y.0 == 0) (x.1 == 0) _ (zero_is y.0 none)
    | inr yv ↦ elim (none_or_some x.1) [
      | inl none ↦ third (x.0 == 0) (y.0 == 0) (x.1 == 0) _ (zero_is x.1 none)
      | inr xs ↦ rw (some_is x.0 xv, some_is y.0 yv, some_is x.1 xs) (h xv yv xs)
    ]
  ]
]
  where
    second : (a b c d : Bool) → b ≡ true → (a || b || c || d) ≡ true
    second true b c d e = refl
    second false true c d e = refl
    second false false c d e = absurd e

    third : (a b c d : Bool) → c ≡ true → (a || b || c || d) ≡ true
    third true b c d e = refl
    third false true c d e = refl
    third false false true d e = refl
    third false false false d e = absurd e

self : (q : Quotient) → is_at_least q q ≡ true
self q = elim (either (is_at_least q q)) [ inl h ↦ h | inr h ↦ at_least-total q q h ]

-- a party with the greatest quotient for its next seat
record Greatest (method : Method) (ps : List Party) : Type 0 where
  before : List Party
  first : Party
  after : List Party
  split : ps ≡ before ++ first ∷ after
  some : 0 < first.0
  most : (y : Party) → Has ps y → 0 < y.0 → is_at_least (quotient method first.0 first.1) (quotient method y.0 y.1) ≡ true

member-votes : (ps : List Party) (y : Party) → Has ps y → y.0 ≤ sum_by (λ (p : Party). p.0) ps
member-votes [] y here = elim here [ ]
member-votes (p ∷ ps) y (inl is) = omega (arith, sum_by-cons (λ (q : Party). q.0) p ps, ap (λ (q : Party). q.0) is)
member-votes (p ∷ ps) y (inr later) = omega (arith, sum_by-cons (λ (q : Party). q.0) p ps, member-votes ps y later)

-- the first of the parties, or the greatest of the others
greater : (method : Method) (p : Party) (ps : List Party) → 0 < p.0 → Greatest method ps → Greatest method (p ∷ ps)
greater method p ps some g = elim (either (is_at_least (quotient method p.0 p.1) (quotient method (g.first).0 (g.first).1))) [
  | inl at_least ↦ record {
    before = [];
    first = p;
    after = ps;
    split = refl;
    some = some;
    most = λ y here v. elim here [
      | inl is ↦ subst (λ (q : Party). is_at_least (quotient method p.0 p.1) (quotient method q.0 q.1) ≡ true) is (self (quotient method p.0 p.1))
      | inr later ↦ at_least-trans (quotient method p.0 p.1) (quotient method (g.first).0 (g.first).1) (quotient method y.0 y.1) at_least (g.most y later v)
    ];
  }
  | inr less ↦ record {
    before = p ∷ g.before;
    first = g.first;
    after = g.after;
    split = ap (λ l. p ∷ l) g.split;
    some = g.some;
    most = λ y here v. elim here [
      | inl is ↦ subst (λ (q : Party). is_at_least (quotient method (g.first).0 (g.first).1) (quotient method q.0 q.1) ≡ true) is
          (at_least-total (quotient method p.0 p.1) (quotient method (g.first).0 (g.first).1) less)
      | inr later ↦ g.most y later v
    ];
  }
]

pick : (method : Method) (ps : List Party) → 0 < sum_by (λ (p : Party). p.0) ps → Greatest method ps
pick method [] some = impossible (omega (arith, some))
pick method (p ∷ ps) some =
    let split = sum_by-cons (λ (q : Party). q.0) p ps in
    elim (none_or_some p.0) [
      | inl none ↦
          let g = pick method ps (omega (arith, some, split, none)) in
          record {
            before = p ∷ g.before;
            first = g.first;
            after = g.after;
            split = ap (λ l. p ∷ l) g.split;
            some = g.some;
            most = λ y here v. elim here [
              | inl is ↦ impossible (omega (arith, v, none, ap (λ (q : Party). q.0) is))
              | inr later ↦ g.most y later v
            ];
          }
      | inr votes ↦ elim (none_or_some (sum_by (λ (q : Party). q.0) ps)) [
        | inl none ↦ record {
          before = [];
          first = p;
          after = ps;
          split = refl;
          some = votes;
          most = λ y here v. elim here [
            | inl is ↦ subst (λ (q : Party). is_at_least (quotient method p.0 p.1) (quotient method q.0 q.1) ≡ true) is (self (quotient method p.0 p.1))
            | inr later ↦ impossible (omega (arith, v, none, member-votes ps y later))
          ];
        }
        | inr others ↦ greater method p ps votes (pick method ps others)
      ]
    ]

has-middle : (before after : List Party) (x : Party) → Has (before ++ x ∷ after) x
has-middle [] after x = inl refl
has-middle (b ∷ before) after x = inr (has-middle before after x)

has-replaced : (before after : List Party) (x z y : Party) → Has (before ++ z ∷ after) y → Has (before ++ x ∷ after) y ⊎ (z ≡ y)
has-replaced [] after x z y (inl is) = inr is
has-replaced [] after x z y (inr later) = inl (inr later)
has-replaced (b ∷ before) after x z y (inl is) = inl (inl is)
has-replaced (b ∷ before) after x z y (inr later) = elim (has-replaced before after x z y later) [ inl h ↦ inl (inr h) | inr h ↦ inr h ]

votes-of_zip : (votes list : List ℕ) → length list ≡ length votes → map (λ (p : Party). p.0) (zip votes list) ≡ votes
votes-of_zip [] list h = refl
votes-of_zip (v ∷ votes) [] h = impossible (omega (arith, h))
votes-of_zip (v ∷ votes) (a ∷ list) h = ap (λ l. v ∷ l) (votes-of_zip votes list (omega (arith, h)))

seats-of_zip : (votes list : List ℕ) → length list ≡ length votes → map (λ (p : Party). p.1) (zip votes list) ≡ list
seats-of_zip [] [] h = refl
seats-of_zip [] (a ∷ list) h = impossible (omega (arith, h))
seats-of_zip (v ∷ votes) [] h = impossible (omega (arith, h))
seats-of_zip (v ∷ votes) (a ∷ list) h = ap (λ l. a ∷ l) (seats-of_zip votes list (omega (arith, h)))

zip-of_maps : (ps : List Party) → zip (map (λ (p : Party). p.0) ps) (map (λ (p : Party). p.1) ps) ≡ ps
zip-of_maps [] = refl
zip-of_maps (p ∷ ps) = ap (λ l. p ∷ l) (zip-of_maps ps)

same-votes : (before after : List Party) (x z : Party) → z.0 ≡ x.0 → map (λ (p : Party). p.0) (before ++ z ∷ after) ≡ map (λ (p : Party). p.0) (before ++ x ∷ after)
same-votes [] after x z same = ap (λ n. n ∷ map (λ (p : Party). p.0) after) same
same-votes (b ∷ before) after x z same = ap (λ l. b.0 ∷ l) (same-votes before after x z same)

one-more : (before after : List Party) (x z : Party) → z.1 ≡ x.1 + 1 → sum (map (λ (p : Party). p.1) (before ++ z ∷ after)) ≡ sum (map (λ (p : Party). p.1) (before ++ x ∷ after)) + 1
one-more [] after x z more =
    omega (arith, more, sum_by-cons (λ n. n) z.1 (map (λ (p : Party). p.1) after), sum_by-cons (λ n. n) x.1 (map (λ (p : Party). p.1) after))
one-more (b ∷ before) after x z more =
    omega (arith, one-more before after x z more, sum_by-cons (λ n. n) b.1 (map (λ (p : Party). p.1) (before ++ z ∷ after)), sum_by-cons (λ n. n) b.1 (map (λ (p : Party). p.1) (before ++ x ∷ after)))

not-less : (before after : List Party) (x z : Party) → x.1 ≤ z.1
    → AllByRecursion (λ (n : ℕ × ℕ). n.0 ≤ n.1) (zip (map (λ (p : Party). p.1) (before ++ x ∷ after)) (map (λ (p : Party). p.1) (before ++ z ∷ after)))
not-less [] after x z more = (more, none after)
  where
    none : (ps : List Party) → AllByRecursion (λ (n : ℕ × ℕ). n.0 ≤ n.1) (zip (map (λ (p : Party). p.1) ps) (map (λ (p : Party). p.1) ps))
    none [] = tt
    none (p ∷ ps) = (omega arith, none ps)
not-less (b ∷ before) after x z more = (omega arith, not-less before after x z more)

length-votes : (before after : List Party) (x z : Party) → length (map (λ (p : Party). p.1) (before ++ z ∷ after)) ≡ length (map (λ (p : Party). p.0) (before ++ x ∷ after))
length-votes [] after x z = ap suc (same-length after)
  where
    same-length : (ps : List Party) → length (map (λ (p : Party). p.1) ps) ≡ length (map (λ (p : Party). p.0) ps)
    same-length [] = refl
    same-length (p ∷ ps) = ap suc (same-length ps)
length-votes (b ∷ before) after x z = ap suc (length-votes before after x z)

pub one-seat_more : (method : Method) (votes allocation : List ℕ) (seats : ℕ) → (method ≡ Hamilton → ⊥) → 0 < sum votes → IsFair method votes seats allocation
    → (more : List ℕ) × IsFair method votes (seats + 1) more × AllByRecursion (λ (n : ℕ × ℕ). n.0 ≤ n.1) (zip allocation more)
one-seat_more method votes allocation seats other some fair =
    let f = facts method votes allocation seats fair in
    let ps : List Party = zip votes allocation in
    let g = pick method ps (omega (arith, some, zip-votes votes allocation f.long)) in
    let raised : Party = ((g.first).0, (g.first).1 + 1) in
    let old : List Party = g.before ++ g.first ∷ g.after in
    let new : List Party = g.before ++ raised ∷ g.after in
    let more : List ℕ = map (λ (p : Party). p.1) new in
    let votes_are : votes ≡ map (λ (p : Party). p.0) old = sym (votes-of_zip votes allocation f.long) ∙ ap (map (λ (p : Party). p.0)) g.split in
    let seats_are : allocation ≡ map (λ (p : Party). p.1) old = sym (seats-of_zip votes allocation f.long) ∙ ap (map (λ (p : Party). p.1)) g.split in
    let zipped : zip votes more ≡ new = ap (λ l. zip l more) (votes_are ∙ sym (same-votes g.before g.after g.first raised refl)) ∙ zip-of_maps new in
    let member : (y : Party) → Has new y → Has ps y ⊎ (raised ≡ y) = λ y here.
    elim (has-replaced g.before g.after g.first raised y here) [ inl h ↦ inl (subst (λ l. Has l y) (sym g.split) h) | inr h ↦ inr h ] in
    let first_in : Has ps g.first = subst (λ l. Has l g.first) (sym g.split) (has-middle g.before g.after g.first) in
    let pairs : list_all (λ x. list_all (keeps_its_seat method x) ps) ps ≡ true = sym (right-pairs method other (sum votes) seats ps) ∙ f.right in
    let kept : (x y : Party) → Has ps x → Has ps y → keeps_its_seat method x y ≡ true = λ x y hx hy.
    all-member (keeps_its_seat method x) ps y (all-member (λ z. list_all (keeps_its_seat method z) ps) ps x pairs hx) hy in
    let falls : is_at_least (quotient method (g.first).0 (g.first).1) (quotient method (g.first).0 ((g.first).1 + 1)) ≡ true =
    at_least-total (quotient method (g.first).0 ((g.first).1 + 1)) (quotient method (g.first).0 (g.first).1) (quotients-fall method other (g.first).0 (g.first).1 g.some) in
    let back : (g.first).1 + 1 - 1 ≡ (g.first).1 = omega arith in
    let from_raised : (y : Party) → (0 < y.0 → is_at_least (quotient method (g.first).0 (g.first).1) (quotient method y.0 y.1) ≡ true) → keeps_its_seat method raised y ≡ true = λ y h.
    order-keeps method raised y (λ v w s. ap (λ n. is_at_least (quotient method (g.first).0 n) (quotient method y.0 y.1)) back ∙ h w) in
    let to_raised : (y : Party) → Has ps y → keeps_its_seat method y raised ≡ true = λ y hy.
    order-keeps method y raised (λ v w s. at_least-trans (quotient method y.0 (y.1 - 1)) (quotient method (g.first).0 (g.first).1) (quotient method (g.first).0 ((g.first).1 + 1))
    (keeps-order method y g.first (kept y g.first hy first_in) v w s) falls) in
    let now : (x y : Party) → Has new x → Has new y → keeps_its_seat method x y ≡ true = λ x y hx hy.
    elim (member x hx) [
      | inl ox ↦ elim (member y hy) [
        | inl oy ↦ kept x y ox oy
        | inr is ↦ subst (λ z. keeps_its_seat method x z ≡ true) is (to_raised x ox)
      ]
      | inr isx ↦ subst (λ z. keeps_its_seat method z y ≡ true) isx (elim (member y hy) [
        | inl oy ↦ from_raised y (λ v. g.most y oy v)
        | inr isy ↦ subst (λ z. keeps_its_seat method raised z ≡ true) isy (from_raised raised (λ v. falls))
      ])
    ] in
    let earned : (y : Party) → Has new y → has_votes_for_seats y ≡ true = λ y hy.
    elim (member y hy) [
      | inl oy ↦ all-member has_votes_for_seats ps y f.earned oy
      | inr is ↦ subst (λ z. has_votes_for_seats z ≡ true) is (rw (some_is (g.first).0 g.some) refl)
    ] in (
      more,
      fair-from_facts method votes more (seats + 1) (record {
        long = length-votes g.before g.after g.first raised ∙ ap length (sym votes_are);
        all = one-more g.before g.after g.first raised refl ∙ ap (λ l. sum l + 1) (sym seats_are) ∙ ap (λ n. n + 1) f.all;
        earned = ap (list_all has_votes_for_seats) zipped ∙ all-from_members has_votes_for_seats new earned;
        right = right-pairs method other (sum votes) (seats + 1) (zip votes more) ∙ ap (λ l. list_all (λ x. list_all (keeps_its_seat method x) l) l) zipped
            ∙ all-from_members (λ x. list_all (keeps_its_seat method x) new) new (λ x hx. all-from_members (keeps_its_seat method x) new (λ y hy. now x y hx hy));
      }),
      subst (λ l. AllByRecursion (λ (n : ℕ × ℕ). n.0 ≤ n.1) (zip l more)) (sym seats_are) (not-less g.before g.after g.first raised (omega arith)),
    )
