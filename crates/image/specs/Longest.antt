-- How long the parts of an image are, and the longest image of a site of given sizes. Numbers have
-- 4 bytes and records 8.
use Rattle.std.specs.Prelude.{ℕ, ◌+◌, ◌-◌, ◌*◌}
use Rattle.rules.specs.declared.model.Kind.{Kind}
use Rattle.row.specs.Row.{best_at}
use Rattle.image.specs.Image.{first_words}

-- "number of bodies (n+2), then byte offset .. and length of each": of so many bodies, of n boxes
abbrev pub table_bytes : ℕ → ℕ
table_bytes bodies = 4 + 8 * bodies

abbrev pub table_long : ℕ → ℕ
table_long n = table_bytes (n + 2)

-- "general (n, J, L, epoch, present set ..)": five numbers
abbrev pub general_long : ℕ
general_long = 20

-- a box: numbers ("flag, state, .. accept set" and, with Q-12, who heard), "three records" and the
-- "count of records held", 28 bytes; "n peers' lasts"; and r records
abbrev pub box_head_long : ℕ → ℕ
box_head_long n = 4 * best_at + 28 + 4 * n

abbrev pub box_long : ℕ → ℕ → ℕ
box_long n r = box_head_long n + 8 * r

-- a mail: five numbers ("kind .., pn, last, unagreed pn, record count"), in some kinds first; and r
-- records
abbrev pub letter_head_long : Kind → ℕ
letter_head_long k = 20 + 4 * first_words k

abbrev pub letter_long : Kind → ℕ → ℕ
letter_long k r = letter_head_long k + 8 * r

-- "each a count and its mails", L of them with first and J records each, as a Commit may be
abbrev pub link_long : ℕ → ℕ → ℕ
link_long J L = 4 + L * letter_long Kind.Commit J

-- each of n books is full, and so is each link, n (n − 1) of them, of mails with the whole book
unfoldable pub longest : ℕ → ℕ → ℕ → ℕ
longest n J L =
    table_long n
    + (general_long
    + (n * box_long n J
    + n * (n - 1) * link_long J L))

-- no image is longer than this: n = 5, J = 4,096, L = 16
abbrev pub longest_of_all : ℕ
longest_of_all = 10657940

-- .. and of a trace's: n = 5, J = 32, L = 8
abbrev pub longest_of_traces : ℕ
longest_of_traces = 46740
