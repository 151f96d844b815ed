-- `tokens::read_name` meets its contract. Assumes nothing.
use mathlib.Core.Path.{◌≡◌, refl, sym, ◌∙◌}
use mathlib.Core.List.{List}
use Prim.Native.Nat.{ℕ}
use borrow.Author.Rules.{rules}
use Rattle.text.specs.Text.{◌or_read◌, word_for}
use Rattle.text.specs.View.{view}
use Rattle.tokens.specs.Color.{color, color_names, named_of}
use Rattle.tokens.proofs.NameTable.{these-names, one_name, two_names, no-letter}
use Rattle.tokens.proofs.read_name.Goals as goal

pub returns-in-97 : goal.returns-in-97
unfolding color_names
returns-in-97 c = one_name _ 97 (sym c.in-97.is ∙ c.first_letter-letter.ensures.letter) refl c.rgba.ensures c.word_for.ensures

pub returns-in-98 : goal.returns-in-98
unfolding color_names
returns-in-98 c =
    let l : List ℕ = c.args.s.now in
    let found : view c.or_else.result ≡ (word_for "black" (color 0x00 0x00 0x00 0xff) l or_read word_for "blue" (color 0x00 0x00 0xff 0xff) l) = search rules in
    found ∙ two_names l 98 (sym c.in-98.is ∙ c.first_letter-letter.ensures.letter) refl

pub returns-in-102 : goal.returns-in-102
unfolding color_names
returns-in-102 c = one_name _ 102 (sym c.in-102.is ∙ c.first_letter-letter.ensures.letter) refl c.rgba-in-102.ensures c.word_for-in-102.ensures

pub returns-in-103 : goal.returns-in-103
unfolding color_names
returns-in-103 c =
    let l : List ℕ = c.args.s.now in
    let found : view c.or_else-in-103.result ≡ (word_for "gray" (color 0x80 0x80 0x80 0xff) l or_read word_for "green" (color 0x00 0x80 0x00 0xff) l) = search rules in
    found ∙ two_names l 103 (sym c.in-103.is ∙ c.first_letter-letter.ensures.letter) refl

pub returns-in-108 : goal.returns-in-108
unfolding color_names
returns-in-108 c = one_name _ 108 (sym c.in-108.is ∙ c.first_letter-letter.ensures.letter) refl c.rgba-in-108.ensures c.word_for-in-108.ensures

pub returns-in-109 : goal.returns-in-109
unfolding color_names
returns-in-109 c = one_name _ 109 (sym c.in-109.is ∙ c.first_letter-letter.ensures.letter) refl c.rgba-in-109.ensures c.word_for-in-109.ensures

pub returns-in-110 : goal.returns-in-110
unfolding color_names
returns-in-110 c = one_name _ 110 (sym c.in-110.is ∙ c.first_letter-letter.ensures.letter) refl c.rgba-in-110.ensures c.word_for-in-110.ensures

pub returns-in-111 : goal.returns-in-111
unfolding color_names
returns-in-111 c = one_name _ 111 (sym c.in-111.is ∙ c.first_letter-letter.ensures.letter) refl c.rgba-in-111.ensures c.word_for-in-111.ensures

pub returns-in-112 : goal.returns-in-112
unfolding color_names
returns-in-112 c = one_name _ 112 (sym c.in-112.is ∙ c.first_letter-letter.ensures.letter) refl c.rgba-in-112.ensures c.word_for-in-112.ensures

pub returns-in-114 : goal.returns-in-114
unfolding color_names
returns-in-114 c = one_name _ 114 (sym c.in-114.is ∙ c.first_letter-letter.ensures.letter) refl c.rgba-in-114.ensures c.word_for-in-114.ensures

pub returns-in-115 : goal.returns-in-115
unfolding color_names
returns-in-115 c = one_name _ 115 (sym c.in-115.is ∙ c.first_letter-letter.ensures.letter) refl c.rgba-in-115.ensures c.word_for-in-115.ensures

pub returns-in-116 : goal.returns-in-116
unfolding color_names
returns-in-116 c =
    let l : List ℕ = c.args.s.now in
    let found : view c.or_else-in-116.result ≡ (word_for "teal" (color 0x00 0x80 0x80 0xff) l or_read word_for "transparent" (color 0x00 0x00 0x00 0x00) l) = search rules in
    found ∙ two_names l 116 (sym c.in-116.is ∙ c.first_letter-letter.ensures.letter) refl

pub returns-in-119 : goal.returns-in-119
unfolding color_names
returns-in-119 c = one_name _ 119 (sym c.in-119.is ∙ c.first_letter-letter.ensures.letter) refl c.rgba-in-119.ensures c.word_for-in-119.ensures

pub returns-in-121 : goal.returns-in-121
unfolding color_names
returns-in-121 c = one_name _ 121 (sym c.in-121.is ∙ c.first_letter-letter.ensures.letter) refl c.rgba-in-121.ensures c.word_for-in-121.ensures

pub returns-in_default : goal.returns-in_default
unfolding named_of
returns-in_default c =
    let is = c.first_letter-letter in
    these-names _ is.result.0 is.ensures.letter
    (no-letter _ (search rules) (search rules) (search rules) (search rules) (search rules) (search rules) (search rules) (search rules) (search rules) (search rules) (search rules) (search rules) (search rules)
    (search rules))
