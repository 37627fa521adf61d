-- Reading a whole file, step by step.
use Rattle.std.proofs.Common.{◌≡◌, ◌≢◌, List, [], ◌∷◌, refl, ap, ◌∙◌, arith}
use Rattle.c_grammar.specs.declared.word.Word.TheVariants as w
use Rattle.c_grammar.specs.declared.sign.Sign.TheVariants as s
use Rattle.c_grammar.specs.Token.{Kind, IsWord, IsSign, Token}
use Rattle.c_reading.specs.Reader.{Fault, Unexpected, Got, Stop, ended, begins, size, many}
use Rattle.c_grammar.specs.File.{File}
use Rattle.c_reading.specs.ReadFile.{begins_top, begins_top_kind, checked, top_at, read_file}
use Rattle.c_cursor.specs.Seen.{look_of, look_at, bare_kind, passes}
use Rattle.c_cursor.proofs.Looks.{passes-begins}

top_kind : (k : Kind) → begins_top_kind (bare_kind (look_of k)) ≡ begins_top_kind k
top_kind (IsWord w.Int) = refl
top_kind (IsSign s.Hash) = refl
top_kind k = refl

pub top_look : (ts : List Token) → passes begins_top_kind (look_at ts) ≡ begins begins_top ts
top_look = passes-begins begins_top_kind top_kind

end_got : (tops : File) (rest : List Token) → size rest ≡ 0 → ended (Got tops rest) ≡ Got tops []
end_got tops [] h = refl
end_got tops (x ∷ rest) h = absurd (omega (arith, h))

end_more : (tops : File) (rest : List Token) → size rest ≢ 0 → ended (Got tops rest) ≡ Stop Unexpected rest
end_more tops [] h = absurd (h refl)
end_more tops (x ∷ rest) h = refl

module _ (ts rest : List Token) where
  pub file_got : (tops : File) → many begins_top (checked (top_at 200)) ts ≡ Got tops rest → size rest ≡ 0 → read_file 200 ts ≡ Got tops []
  unfolding read_file
  file_got tops e h = ap ended e ∙ end_got tops rest h

  pub file_more : (tops : File) → many begins_top (checked (top_at 200)) ts ≡ Got tops rest → size rest ≢ 0 → read_file 200 ts ≡ Stop Unexpected rest
  unfolding read_file
  file_more tops e h = ap ended e ∙ end_more tops rest h

  pub file_stop : (f : Fault) → many begins_top (checked (top_at 200)) ts ≡ Stop f rest → read_file 200 ts ≡ Stop f rest
  unfolding read_file
  file_stop f e = ap ended e
