-- text: what the program prints of each answer.
use Rattle.std.specs.Prelude.{ℕ, List, [], ◌∷◌, ◌++◌, ◌<◌, ◌^◌, ⊤, codes, length}
use Rattle.mu_input.specs.declared.job.InputEnd.{InputEnd}
use Rattle.mu_io.specs.declared.whole.ReadEnd.{ReadEnd}
use Rattle.mu_mistakes.specs.Misreads.{HasShortLines, misread_lines, refusal_words}
use Rattle.mu_report.specs.declared.said.Said.{Said}
use Rattle.mu_report.specs.declared.said.Said.TheVariants.{Usage, Refused, Ran, Traced, Summed, Booked, Lived, Judged, Explained, Noted, Told, Shown, Attested, Flawed, Misread, Promised, ReadFault, NoMemory, TooLong}
use Rattle.mu_report.specs.Accounts.{account_lines}
use Rattle.mu_report.specs.Answers.{verdict_line}
use Rattle.mu_report.specs.Attesting.{attested_lines, flawed_lines}
use Rattle.mu_report.specs.Books.{book_lines}
use Rattle.mu_report.specs.Facts.{moment_lines, noted_lines}
use Rattle.mu_report.specs.Lives.{lived_lines, HasShortSights}
use Rattle.mu_report.specs.Printing.{ended}
use Rattle.mu_report.specs.Promises.{promise_lines}
use Rattle.mu_report.specs.Reasons.{explained_lines}
use Rattle.mu_report.specs.Report.{report_lines, HasShortLists}
use Rattle.mu_report.specs.Summary.{summary_lines}
use Rattle.mu_report.specs.Trace.{trace_lines, IsCountable}

-- what is said, as lines without their ends
abbrev pub lines_of : Said → List (List ℕ)
lines_of Usage =
    (codes
    "usage: mu replay, mu eager, mu run, mu check, mu why, mu tell, mu show N, mu attest, "
    ++ codes "mu trace, mu eager trace, mu enough, mu bulk N, mu live K, mu desk, mu book, "
    ++ codes "mu serve N")
    ∷ []
lines_of (Refused line cause) = refusal_words line cause ∷ []
lines_of (Ran o) = report_lines o
lines_of (Traced o) = trace_lines o
lines_of (Summed o) = summary_lines o
lines_of (Booked o book) = book_lines o book
lines_of (Lived o lived) = lived_lines o lived.sights
lines_of (Judged events verdict) = verdict_line events verdict ∷ []
lines_of (Explained events line broken) = explained_lines events line broken
lines_of (Noted events strays) = noted_lines events strays
lines_of (Told account) = account_lines account
lines_of (Shown moment) = moment_lines moment
lines_of (Attested counts) = attested_lines counts
lines_of (Flawed flawed) = flawed_lines flawed
lines_of (Misread misread) = misread_lines misread
lines_of (Promised promises) = promise_lines promises
lines_of ReadFault = codes "read fault" ∷ []
lines_of NoMemory = codes "no memory" ∷ []
lines_of TooLong = codes "too long" ∷ []

-- what is said, as the bytes that are printed
abbrev pub text : Said → List ℕ
text said = ended (lines_of said)

-- what is said if no job and no trace was read
abbrev pub said_of_end : InputEnd → Said
said_of_end (InputEnd.Refused line cause) = Refused line cause
said_of_end InputEnd.NoMemory = NoMemory

-- what is said if the input was not read
abbrev pub said_of_read : ReadEnd → Said
said_of_read ReadEnd.Fault = ReadFault
said_of_read ReadEnd.TooLong = TooLong
said_of_read ReadEnd.NoMemory = NoMemory

-- a run that is reported has short lists, as have its readers, the bytes of a trace and of a moment
-- can be counted, and lines of words are short
abbrev pub IsShort : Said → Type 0
IsShort Usage = ⊤
IsShort (Refused line cause) = ⊤
IsShort (Ran o) = HasShortLists o
IsShort (Traced o) = IsCountable o
IsShort (Summed o) = ⊤
IsShort (Booked o book) = ⊤
IsShort (Lived o lived) = HasShortLists o × HasShortSights lived.sights
IsShort (Judged events verdict) = ⊤
IsShort (Explained events line broken) = ⊤
IsShort (Noted events strays) = length strays < 2 ^ 8
IsShort (Told account) = HasShortLists account.outcome
IsShort (Shown moment) = length moment.facts < 2 ^ 32
IsShort (Attested counts) = ⊤
IsShort (Flawed flawed) = ⊤
IsShort (Misread misread) = HasShortLines misread
IsShort (Promised promises) = ⊤
IsShort ReadFault = ⊤
IsShort NoMemory = ⊤
IsShort TooLong = ⊤
