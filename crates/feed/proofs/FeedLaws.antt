-- Laws of a piece: what the loop over its lines keeps; and of the end of the input.
use Prim.Native.Nat.{ℕ, suc, ◌+◌, ◌-◌, ◌<◌, ◌≤◌}
use mathlib.Core.Path.{◌≡◌, refl, ap, sym, ◌∙◌, subst}
use mathlib.Core.Bool.{Bool, true, false, not, ◌&&◌}
use mathlib.Core.List.{List, [], ◌∷◌, ◌++◌, append-nil}
use native.Mathlib.Omega.{arith}
use native.Mathlib.Numerals.{add-one}
use lib.Dec.{eqb, leb, ltb}
use lib.ListN.{length, take, drop, get_or, length-take, length-drop, take-append-drop}
use lib.ListN.{drop_of_length-le}
use lib.Seq.{take-add, drop-drop, drop-cons, length-take-le}
use borrow.Author.Tests.{eq-eqb, ne_eqb, not-true, lt-ltb, le-ltb, ltb-true, ltb-false, leb-true}
use borrow.Author.Tests.{leb-false}
use Rattle.words.specs.Rows.{part}
use Rattle.rules.specs.Every.{each}
use Rattle.rules.specs.Pick.{pick_true, pick-false}
use Rattle.laws.proofs.Logic.{and_yes, pick_elim}
use Rattle.memory.specs.Memory.{site_of}
use Rattle.print.specs.Text.{Wrote, refused_text}
use Rattle.print.proofs.WriteLaws.{nothing, then, spelled, at_most}
use Rattle.lines.specs.Read.{read_line}
use Rattle.lines.specs.declared.Line.{Line}
use Rattle.trace.specs.Feeding.{Feeding, hold, holding, plain, answered, byte_next, byte_text}
use Rattle.trace.specs.Feeding.{feed_next, feed_text, end_text}
use Rattle.trace.specs.Replay.{Told, opened, played, judged, told_text, line_text}
use Rattle.trace.proofs.Pieces.{next_append, text_append, plain-next, plain-text, line-next}
use Rattle.trace.proofs.Pieces.{line-text, feed-held}
use Rattle.feed.specs.State.{Course, course_next, course_text, line_mark, course_mark, run_of}
use Rattle.feed.specs.State.{feeding_of, NoneDone, Untouched, Past, Lent}
use Rattle.feed.specs.Says.{LineEnd, Keeps, Turns, Feeds, taken, answer_most}
use Rattle.feed.specs.State.{held_bytes}
use Rattle.feed.specs.declared.state.Feed.{Feed}
use Rattle.feed.specs.declared.state.Stage.{Stage}
use Rattle.feed.specs.declared.state.Turn.{Turn}
use Rattle.feed.proofs.HeldLaws.{part-more}
use Rattle.feed.proofs.PastLaws.{none_both, past-on}

-- ---- cuts of a piece

take_on : (xs : List ℕ) (i e : ℕ) → i ≤ e → take e xs ≡ take i xs ++ part xs i (e - i)
take_on xs i e h =
    let q : e ≡ i + (e - i) = omega arith in
    ap (λ (j : ℕ). take j xs) q ∙ take-add i (e - i) xs

take-line : (xs : List ℕ) (i e : ℕ) → i ≤ e → e < length xs → get_or xs e 0 ≡ 10
    → take (e + 1) xs ≡ take i xs ++ (part xs i (e - i) ++ (10 ∷ []))
take-line xs i e h k t =
    take_on xs i (e + 1) (omega arith) ∙ ap (λ (l : List ℕ). take i xs ++ l)
    (part-more xs i e h k ∙ ap (λ (b : ℕ). part xs i (e - i) ++ (b ∷ [])) t)

drop-on : (xs : List ℕ) (i e : ℕ) → i ≤ e → drop i xs ≡ part xs i (e - i) ++ drop e xs
drop-on xs i e h =
    let q : i + (e - i) ≡ e = omega arith in
    sym (take-append-drop (e - i) (drop i xs)) ∙ ap (λ (l : List ℕ). part xs i (e - i) ++ l)
    (drop-drop (e - i) i xs ∙ ap (λ (j : ℕ). drop j xs) q)

drop-line : (xs : List ℕ) (i e : ℕ) → i ≤ e → e < length xs → get_or xs e 0 ≡ 10
    → drop i xs ≡ part xs i (e - i) ++ (10 ∷ drop (e + 1) xs)
drop-line xs i e h k t =
    drop-on xs i e h ∙ ap (λ (l : List ℕ). part xs i (e - i) ++ l) (drop-cons xs e 0 k
    ∙ (ap (λ (b : ℕ). b ∷ drop (suc e) xs) t ∙ ap (λ (j : ℕ). 10 ∷ drop j xs) (sym (add-one e))))

part_length : (xs : List ℕ) (i e : ℕ) → i ≤ e → e ≤ length xs → length (part xs i (e - i)) ≡ e - i
part_length xs i e h k = length-take-le (e - i) (drop i xs) (rw length-drop (omega arith))

-- ---- how much is taken

-- bytes with no newline among them are
plain-taken : (p q : List ℕ) (r : ℕ) (s : Feeding Course) → plain p ≡ true
    → taken r s (p ++ q) ≡ length p + taken r (feed_next course_next s p) q
unfolding taken plain each feed_next byte_text
plain-taken [] q r s e = omega arith
plain-taken (b ∷ p) q r s e =
    let w = and_yes (not (eqb b 10)) (plain p) e in
    let f : eqb b 10 ≡ false = not-true (eqb b 10) w.0 in
    let none : byte_text course_text s b ≡ [] = pick-false _ _ _ f in
    let same : r - length (byte_text course_text s b) ≡ r =
    ap (λ (t : List ℕ). r - length t) none ∙ omega arith in
    more (length p) (taken r (feed_next course_next (byte_next course_next s b) p) q)
    (pick-false _ _ _ (ap (λ (t : Bool). t && ltb r answer_most) f)
    ∙ ap (λ (k : ℕ). suc (taken k (byte_next course_next s b) (p ++ q))) same)
    (plain-taken p q r (byte_next course_next s b) w.1)
  where
    more : {a b : ℕ} (c d : ℕ) → a ≡ suc b → b ≡ c + d → a ≡ suc c + d
    more c d e h = omega arith

-- a newline is where there is room, and is not where there is none
line_taken : (p q : List ℕ) (r : ℕ) (s : Feeding Course) → length s.held ≤ 65
    → plain p ≡ true → answer_most ≤ r → taken r s (p ++ (10 ∷ q)) ≡ length p + suc
    (taken (r - length (course_text s.run (read_line (hold s.held p))))
    (feed_next course_next s (p ++ (10 ∷ []))) q)
unfolding taken byte_text feed_next
line_taken p q r s few e h =
    let t = feed_next course_next s p in
    let text : byte_text course_text t 10 ≡ course_text s.run (read_line (hold s.held p)) =
    pick_true _ _ _ (eq-eqb 10 10 refl)
    ∙ ap (λ (u : Feeding Course). course_text u.run (read_line u.held))
    (plain-next course_next course_text p s few e) in
    plain-taken p (10 ∷ q) r s e ∙ ap (λ (n : ℕ). length p + n)
    (pick-false _ _ _ (ap (λ (c : Bool). eqb 10 10 && c) (le-ltb r answer_most h))
    ∙ (ap (λ (l : List ℕ). suc (taken (r - length l) (byte_next course_next t 10) q)) text ∙ ap
    (λ (u : Feeding Course).
    suc (taken (r - length (course_text s.run (read_line (hold s.held p)))) u q))
    (sym (next_append course_next course_text s p (10 ∷ [])))))

full-taken : (p q : List ℕ) (r : ℕ) (s : Feeding Course) → plain p ≡ true → r < answer_most
    → taken r s (p ++ (10 ∷ q)) ≡ length p
unfolding taken
full-taken p q r s e h =
    plain-taken p (10 ∷ q) r s e ∙ (ap (λ (n : ℕ). length p + n)
    (pick_true _ _ _ (ap (λ (c : Bool). eqb 10 10 && c) (lt-ltb r answer_most h))) ∙ omega arith)

all-taken : (p : List ℕ) (r : ℕ) (s : Feeding Course) → plain p ≡ true → taken r s p ≡ length p
unfolding taken
all-taken p r s e = ap (taken r s) (sym (append-nil p)) ∙ (plain-taken p [] r s e ∙ omega arith)

-- ---- the loop

-- before the line that ends at e, lines up to i are answered
pub record Kept (s : Feeding Course) (piece xs₀ ls₀ xs ls before after : List ℕ) (n i e : ℕ)
    (g : Feed) (at : ℕ) : Type 0 where
  pub end : LineEnd piece i n e
  pub next : feeding_of g xs ls ≡ feed_next course_next s (take i piece)
  pub wrote : Wrote (length before) before after 0 at
      (feed_text course_next course_text s (take i piece))
  pub left : taken (length before) s piece
      ≡ i + taken (length before - at) (feed_next course_next s (take i piece)) (drop i piece)
  pub kept : NoneDone s (take i piece) → Untouched xs₀ ls₀ xs ls
  pub past : Past xs₀ ls₀ xs ls
  pub first : g.stage ≡ Stage.First → Untouched xs₀ ls₀ xs ls
  pub lent : Lent g.stage xs ls
  pub site : length xs ≡ length xs₀
  pub links : length ls ≡ length ls₀

pub short-held : (l : List ℕ) (n : ℕ) → length l ≡ 65 → length (take n l) ≤ 65
short-held l n e = rw length-take (omega arith)

pub goes_on : (e n free : ℕ) → (ltb e n && leb answer_most free) ≡ true
    → (e < n) × (answer_most ≤ free)
goes_on e n free h =
    let w = and_yes (ltb e n) (leb answer_most free) h in
    (ltb-true e n w.0, leb-true answer_most free w.1)

none_before : (n : ℕ) → n ≡ 0 + n
none_before n = omega arith

fitted : {m n i j : ℕ} {a b t : List ℕ} → j ≤ i + n → Wrote m a b i j t → Wrote n a b i j t
fitted h w = record { bytes = w.bytes; end = w.end; few = h; room = w.room }

pub kept-none : (f : Feed) (piece xs ls x : List ℕ) (n e : ℕ) → LineEnd piece 0 n e
    → Lent f.stage xs ls → Kept (feeding_of f xs ls) piece xs ls xs ls x x n 0 e f 0
unfolding feed_next feed_text
kept-none f piece xs ls x n e w h = record {
  end = w;
  next = refl;
  wrote = nothing;
  left =
      let z : length x ≡ length x - 0 = omega arith in
      ap (λ (r : ℕ). taken r (feeding_of f xs ls) piece) z ∙ none_before _;
  kept = λ none. (refl, refl);
  past = record { site = refl; links = refl };
  first = λ e. (refl, refl);
  lent = h;
  site = refl;
  links = refl;
}

pub kept_more : (s : Feeding Course) (piece xs₀ ls₀ xs ls xs' ls' : List ℕ) {x y z : List ℕ}
    (n i e e' : ℕ) (g : Feed) {at : ℕ} (t : Turn) → length s.held ≤ 65 → n ≡ length piece
    → e < n → answer_most ≤ length x - at → Kept s piece xs₀ ls₀ xs ls x y n i e g at
    → Turns (answered course_next (holding (feeding_of g xs ls) (part piece i (e - i))))
    (line_text (run_of g.stage g.k (site_of xs ls))
    (read_line (hold (held_bytes g.held) (part piece i (e - i)))))
    (line_mark (run_of g.stage g.k (site_of xs ls))
    (read_line (hold (held_bytes g.held) (part piece i (e - i))))) xs ls xs' ls' y z at t
    → LineEnd piece (e + 1) n e' → Kept s piece xs₀ ls₀ xs' ls' x z n (e + 1) e' t.feed t.at
kept_more s piece xs₀ ls₀ xs ls xs' ls' {x} {y} {z} n i e e' g {at} t short all l free k w more =
    let p = part piece i (e - i) in
    let q = feed_next course_next s (take i piece) in
    let few : length q.held ≤ 65 = feed-held course_next course_text (take i piece) s short in
    let cut : take (e + 1) piece ≡ take i piece ++ (p ++ (10 ∷ [])) =
    take-line piece i e k.end.from (omega arith) (k.end.newline l) in
    let join : feed_next course_next q (p ++ (10 ∷ [])) ≡ feed_next course_next s
    (take (e + 1) piece) =
    sym (next_append course_next course_text s (take i piece) (p ++ (10 ∷ [])))
    ∙ ap (feed_next course_next s) (sym cut) in
    let text : length (course_text (feeding_of g xs ls).run
    (read_line (hold (feeding_of g xs ls).held
    p)))
    ≡ length (course_text q.run (read_line (hold q.held p))) =
    ap (λ (u : Feeding Course). length (course_text u.run (read_line (hold u.held p))))
    k.next in
    let less : length x - at - length (course_text q.run (read_line (hold q.held p)))
    ≡ length x - t.at = omega (arith, w.wrote.end, text) in
    let rest : taken (length x - at) q (drop i piece) ≡ length p + suc
    (taken (length x - t.at) (feed_next course_next s (take (e + 1) piece)) (drop (e + 1) piece)) =
    ap (taken (length x - at) q)
    (drop-line piece i e k.end.from (omega arith) (k.end.newline l))
    ∙ (line_taken p (drop (e + 1) piece) (length x - at) q few k.end.plain free ∙ (ap
    (λ (r : ℕ).
    length p + suc (taken r (feed_next course_next q (p ++ (10 ∷ []))) (drop (e + 1) piece))) less
    ∙ ap (λ (u : Feeding Course). length p + suc (taken (length x - t.at) u (drop (e + 1) piece)))
    join)) in
    record {
      end = more;
      next =
          w.next ∙ (ap (λ (u : Feeding Course). answered course_next (holding u p)) k.next
          ∙ (sym (line-next course_next course_text p q few k.end.plain) ∙ join));
      wrote =
          spelled (ap (λ (u : Feeding Course). feed_text course_next course_text s (take i piece)
          ++ course_text u.run (read_line (hold u.held p))) k.next
          ∙ (ap (λ (u : List ℕ). feed_text course_next course_text s (take i piece) ++ u)
          (sym (line-text course_next course_text p q few k.end.plain))
          ∙ (sym (text_append course_next course_text s (take i piece) (p ++ (10 ∷ [])))
          ∙ ap (feed_text course_next course_text s) (sym cut))))
          (fitted (omega (arith, w.wrote.few)) (then k.wrote w.wrote));
      left =
          sum _ k.left rest (part_length piece i e k.end.from (omega arith)) k.end.from;
      kept = λ none.
          let both =
          none_both _ _ (sym (text_append course_next course_mark s (take i piece) (p ++ (10 ∷ [])))
          ∙ (ap (feed_text course_next course_mark s) (sym cut) ∙ none)) in
          let old = k.kept both.0 in
          let new = w.kept (ap (λ (u : Feeding Course).
          course_mark u.run (read_line (hold u.held p))) k.next
          ∙ (sym (line-text course_next course_mark p q few k.end.plain) ∙ both.1)) in
          (new.0 ∙ old.0, new.1 ∙ old.1);
      past =
          past-on w.past g.stage g.k _ k.first k.past
          (ap (λ (u : Feeding Course). u.run.site) w.next);
      first = λ f. absurd (w.later f);
      lent = w.lent;
      site = w.site ∙ k.site;
      links = w.links ∙ k.links;
    }
  where
    sum : {a b l : ℕ} (c : ℕ) → a ≡ i + b → b ≡ l + suc c → l ≡ e - i → i ≤ e → a ≡ e + 1 + c
    sum c f h d k = omega arith

-- at the end of the piece, or before a newline that must wait, e bytes have been taken
took-is : (s : Feeding Course) (piece xs₀ ls₀ xs ls : List ℕ) {x y : List ℕ} (n i e : ℕ) (g : Feed)
    {at : ℕ} → n ≡ length piece → (ltb e n && leb answer_most (length y - at)) ≡ false
    → Kept s piece xs₀ ls₀ xs ls x y n i e g at → taken (length x) s piece ≡ e
took-is s piece xs₀ ls₀ xs ls {x} {y} n i e g {at} all stop k =
    go (ltb e n) refl
  where
    p : List ℕ
    p = part piece i (e - i)

    q : Feeding Course
    q = feed_next course_next s (take i piece)

    sum : {a b l : ℕ} → a ≡ i + b → b ≡ l → l ≡ e - i → i ≤ e → a ≡ e
    sum f h d c = omega arith

    up : e ≤ length piece
    up = omega (arith, k.end.to)

    long : length p ≡ e - i
    long = part_length piece i e k.end.from up

    go : (b : Bool) → ltb e n ≡ b → taken (length x) s piece ≡ e
    go true h =
        let l : e < n = ltb-true e n h in
        let no : leb answer_most (length y - at) ≡ false =
        sym (ap (λ (b : Bool). b && leb answer_most (length y - at)) h) ∙ stop in
        let full : length x - at < answer_most =
        omega (arith, leb-false answer_most (length y - at) no, k.wrote.room) in
        sum k.left (ap (taken (length x - at) q)
        (drop-line piece i e k.end.from (omega arith) (k.end.newline l))
        ∙ full-taken p (drop (e + 1) piece) (length x - at) q k.end.plain full)
        long k.end.from
    go false h = let l : n ≤ e = ltb-false e n h in
        let none : drop e piece ≡ [] = drop_of_length-le piece {i = e} (omega arith) in
        sum k.left (ap (taken (length x - at) q) (drop-on piece i e k.end.from
        ∙ (ap (λ (t : List ℕ). p ++ t) none ∙ append-nil p))
        ∙ all-taken p (length x - at) q k.end.plain) long k.end.from

pub kept-all : (f : Feed) (piece xs₀ ls₀ xs ls : List ℕ) {x y : List ℕ} (n i e : ℕ) (g h : Feed)
    {at : ℕ} → length (held_bytes f.held) ≤ 65 → n ≡ length piece
    → (ltb e n && leb answer_most (length y - at)) ≡ false
    → Kept (feeding_of f xs₀ ls₀) piece xs₀ ls₀ xs ls x y n i e g at
    → Keeps g (part piece i (e - i)) h
    → Feeds f piece xs₀ ls₀ xs ls x y (record { feed = h; took = e; at = at })
kept-all f piece xs₀ ls₀ xs ls {x} {y} n i e g h {at} short all stop k w =
    let s = feeding_of f xs₀ ls₀ in
    let p = part piece i (e - i) in
    let q = feed_next course_next s (take i piece) in
    let few : length q.held ≤ 65 = feed-held course_next course_text (take i piece) s short in
    let cut : take e piece ≡ take i piece ++ p = take_on piece i e k.end.from in
    let same : (t : Course → Line → List ℕ) → feed_text course_next t s (take e piece)
    ≡ feed_text course_next t s (take i piece) = λ t. ap (feed_text course_next t s) cut
    ∙ (text_append course_next t s (take i piece) p
    ∙ (ap (λ (u : List ℕ). feed_text course_next t s (take i piece) ++ u)
    (plain-text course_next t p q k.end.plain)
    ∙ append-nil (feed_text course_next t s (take i piece)))) in
    let v : Wrote (length x) x y 0 at (feed_text course_next course_text s (take e piece)) =
    spelled (sym (same course_text)) k.wrote in
    record {
      took = sym (took-is s piece xs₀ ls₀ xs ls n i e g all stop k);
      next =
          w.next xs ls ∙ (ap (λ (u : Feeding Course). holding u p) k.next
          ∙ (sym (plain-next course_next course_text p q few k.end.plain)
          ∙ (sym (next_append course_next course_text s (take i piece) p)
          ∙ ap (feed_next course_next s) (sym cut))));
      bytes = v.bytes;
      end = omega (arith, v.end);
      fits = omega (arith, v.few, v.room);
      kept = λ none. k.kept (sym (same course_mark) ∙ none);
      past = k.past;
      lent = subst (λ (u : Stage). Lent u xs ls) (sym w.stage) k.lent;
      site = k.site;
      links = k.links;
    }

-- ---- the end of the input

pub end_none : (f : Feed) (xs ls x : List ℕ) → f.held.len ≡ 0
    → Wrote answer_most x x 0 0 (end_text course_text (feeding_of f xs ls))
unfolding end_text
end_none f xs ls x e =
    spelled (sym (pick_true _ _ _
    (eq-eqb (length (held_bytes f.held)) 0 (rw length-take (omega arith))))) nothing

end_line : (f : Feed) (xs ls : List ℕ) → length f.held.line ≡ 65 → (f.held.len ≡ 0 → ⊥)
    → end_text course_text (feeding_of f xs ls)
    ≡ line_text (run_of f.stage f.k (site_of xs ls)) Line.Unreadable
unfolding end_text
end_line f xs ls e h =
    pick-false _ _ _
    (ne_eqb (length (held_bytes f.held)) 0 (rw length-take (λ q. h (omega arith))))

-- what an unended line prints, by the stage
ended_text : Stage → ℕ → List ℕ
ended_text Stage.First k = refused_text 1 11
ended_text Stage.Going k = refused_text k 11
ended_text Stage.Ended k = []

ended_is : (t : Stage) (k : ℕ) (xs ls : List ℕ)
    → ended_text t k ≡ line_text (run_of t k (site_of xs ls)) Line.Unreadable
unfolding ended_text line_text opened judged played told_text
ended_is Stage.First k xs ls = refl
ended_is Stage.Going k xs ls =
    pick_elim (λ (x : Told). refused_text k 11 ≡ told_text k x) _ (λ e. refl) (λ e. refl)
ended_is Stage.Ended k xs ls = refl

end-some : (f : Feed) (xs ls : List ℕ) {x y : List ℕ} {p : ℕ} (t : Stage) → f.stage ≡ t
    → length f.held.line ≡ 65 → (f.held.len ≡ 0 → ⊥) → Wrote answer_most x y 0 p (ended_text t f.k)
    → Wrote answer_most x y 0 p (end_text course_text (feeding_of f xs ls))
end-some f xs ls t d e h w =
    spelled (ap (λ (u : Stage). ended_text u f.k) (sym d)
    ∙ (ended_is f.stage f.k xs ls ∙ sym (end_line f xs ls e h))) w

pub end-first : (f : Feed) (xs ls : List ℕ) {x y : List ℕ} {p : ℕ} → f.stage ≡ Stage.First
    → length f.held.line ≡ 65 → (f.held.len ≡ 0 → ⊥) → Wrote 50 x y 0 p (refused_text 1 11)
    → Wrote answer_most x y 0 p (end_text course_text (feeding_of f xs ls))
unfolding ended_text
end-first f xs ls d e h w = end-some f xs ls Stage.First d e h (at_most (omega arith) w)

pub end-going : (f : Feed) (xs ls : List ℕ) {x y : List ℕ} {p : ℕ} → f.stage ≡ Stage.Going
    → length f.held.line ≡ 65 → (f.held.len ≡ 0 → ⊥) → Wrote 50 x y 0 p (refused_text f.k 11)
    → Wrote answer_most x y 0 p (end_text course_text (feeding_of f xs ls))
unfolding ended_text
end-going f xs ls d e h w = end-some f xs ls Stage.Going d e h (at_most (omega arith) w)

pub end-ended : (f : Feed) (xs ls x : List ℕ) → f.stage ≡ Stage.Ended
    → length f.held.line ≡ 65 → (f.held.len ≡ 0 → ⊥)
    → Wrote answer_most x x 0 0 (end_text course_text (feeding_of f xs ls))
unfolding ended_text
end-ended f xs ls x d e h = end-some f xs ls Stage.Ended d e h nothing
