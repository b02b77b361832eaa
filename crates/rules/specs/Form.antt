-- "By form": what every entry refuses (1) where it is broken, for a box, a letter and a site.
use Rattle.std.specs.Prelude.{ℕ, ◌+◌, ◌-◌, Bool, not, ◌&&◌, ◌||◌, List, [], ◌∷◌, leb, ltb, eqb}
use Rattle.std.specs.Prelude.{length, get_or}
use Rattle.rules.specs.Every.{all, each, every, tally}
use Rattle.rules.specs.Sizes.{most_boxes, most_epoch, most_number, most_pn, unknown, within}
use Rattle.rules.specs.Sizes.{sizes_form, proper, record_form}
use Rattle.rules.specs.Sets.{set_form}
use Rattle.rules.specs.Box.{Box, Letter}
use Rattle.rules.specs.Site.{Site}
use Rattle.rules.specs.Types.{Kind}

-- "by form 1, or at most last" (Q-4)
unfoldable pub first_form : ℕ → ℕ → Bool
first_form first last = leb 1 first && (eqb first 1 || leb first last)

-- "keeps only first to last and perhaps last+1, at most J records in all" (Q-4), of a box and of a
-- Last; last+1 is a load number too
unfoldable pub count_form : ℕ → ℕ → ℕ → ℕ → Bool
count_form J first last count =
    (eqb (first + count) (last + 1) || (eqb (first + count) (last + 2) && ltb last most_number))
    && leb count J

-- "each peer's last (0 to [the most] or unknown; its own always unknown)": place k of box b; no box
-- has a number above n
unfoldable pub peer_form : ℕ → ℕ → List ℕ → ℕ → Bool
peer_form n b peers k =
    eqb (get_or peers (k - 1) 0) unknown
    || (leb k n && not (eqb k b) && leb (get_or peers (k - 1) 0) most_number)

-- box b of n, the book's size J
unfoldable pub form_box : ℕ → ℕ → ℕ → Box → Bool
form_box n J b x =
    all (leb x.head.kept.last most_number
    ∷ first_form x.head.kept.first x.head.kept.last
    ∷ count_form J x.head.kept.first x.head.kept.last (length x.records)
    ∷ each proper x.records
    ∷ leb x.head.kept.pn most_pn
    ∷ leb x.head.kept.stored.pn most_pn
    ∷ leb x.head.kept.stored.number most_number
    ∷ leb x.head.best.pn most_pn
    ∷ leb x.head.best.number most_number
    ∷ record_form x.head.best.value
    ∷ set_form n x.head.answered
    ∷ set_form n x.head.accepts
    ∷ set_form n x.head.heard
    ∷ record_form x.head.waiting
    ∷ record_form x.head.agreeing
    ∷ eqb (length x.head.peers) most_boxes
    ∷ every most_boxes (peer_form n b x.head.peers)
    ∷ [])

-- a mail that carries no first, no record and no unagreed pn
abbrev pub bare : ℕ → ℕ → ℕ → Bool
bare first unagreed count = eqb count 0 && eqb unagreed 0 && eqb first 0

-- "Last holds last or last+1 records (at most J), Commit holds last, Begin one (and its last is
-- below [the most]), the rest none; unagreed pn is 0 except in a Last with last+1 records"; "pn (0
-- in Lease)", and in LeaseAck (Q-12); "Last, Commit and Begin carry the sender's first, under the
-- same form; Last and Commit hold records from it on" (Q-4)
unfoldable pub form_kind : Kind → ℕ → ℕ → ℕ → ℕ → ℕ → ℕ → Bool
form_kind Kind.Collect J pn last first unagreed count = bare first unagreed count
form_kind Kind.Last J pn last first unagreed count =
    first_form first last && count_form J first last count
    && (eqb unagreed 0 || eqb (first + count) (last + 2))
form_kind Kind.Begin J pn last first unagreed count =
    first_form first last && (eqb count 1 && leb count J) && ltb last most_number && eqb unagreed 0
form_kind Kind.Accept J pn last first unagreed count = bare first unagreed count
form_kind Kind.Commit J pn last first unagreed count =
    first_form first last && eqb (first + count) (last + 1) && leb count J && eqb unagreed 0
form_kind Kind.Lease J pn last first unagreed count = bare first unagreed count && eqb pn 0
form_kind Kind.LeaseAck J pn last first unagreed count = bare first unagreed count && eqb pn 0

-- "Mail: .. other ranges as for boxes"
unfoldable pub form_letter : ℕ → Letter → Bool
form_letter J y =
    all (form_kind y.head.kind J y.head.pn y.head.last y.head.first
    y.head.unagreed (length y.records)
    ∷ each proper y.records
    ∷ leb y.head.pn most_pn
    ∷ leb y.head.unagreed most_pn
    ∷ leb y.head.last most_number
    ∷ [])

-- "holding at most L mails"; no box has a link to itself
unfoldable pub form_link : Site → ℕ → ℕ → Bool
form_link s a b =
    eqb a b || (leb (length (s.link a b)) s.L && each (form_letter s.J) (s.link a b))

-- "ranges as above; at most one leader; .."
unfoldable pub form : Site → Bool
form s =
    all (sizes_form s.n s.J s.L
    ∷ within 1 most_epoch s.epoch
    ∷ set_form s.n s.present
    ∷ every s.n (λ b. form_box s.n s.J b (s.box b))
    ∷ leb (tally s.n (λ b. (s.box b).head.leads)) 1
    ∷ every s.n (λ a. every s.n (form_link s a))
    ∷ [])
