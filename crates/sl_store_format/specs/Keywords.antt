-- meaning: the bytes of each word.
use Rattle.std.specs.Prelude.{ℕ, List, codes}
use Rattle.sl_ast.specs.Symbols.{Word, plain, quoted}
use Rattle.sl_ast.specs.declared.symbols.Keyword.{Keyword}
use Rattle.sl_ast.specs.declared.symbols.Keyword.TheVariants as k

abbrev pub keyword_bytes : Keyword → List ℕ
keyword_bytes k.Define = codes "define"
keyword_bytes k.Attach = codes "attach"
keyword_bytes k.Endian = codes "endian"
keyword_bytes k.Big = codes "big"
keyword_bytes k.Little = codes "little"
keyword_bytes k.Alignment = codes "alignment"
keyword_bytes k.Space = codes "space"
keyword_bytes k.Type = codes "type"
keyword_bytes k.Size = codes "size"
keyword_bytes k.WordSize = codes "wordsize"
keyword_bytes k.Default = codes "default"
keyword_bytes k.BitRange = codes "bitrange"
keyword_bytes k.PcodeOp = codes "pcodeop"
keyword_bytes k.Token = codes "token"
keyword_bytes k.Context = codes "context"
keyword_bytes k.Offset = codes "offset"
keyword_bytes k.Signed = codes "signed"
keyword_bytes k.Hex = codes "hex"
keyword_bytes k.Dec = codes "dec"
keyword_bytes k.NoFlow = codes "noflow"
keyword_bytes k.Variables = codes "variables"
keyword_bytes k.Names = codes "names"
keyword_bytes k.Values = codes "values"
keyword_bytes k.Macro = codes "macro"
keyword_bytes k.With = codes "with"
keyword_bytes k.Is = codes "is"
keyword_bytes k.Unimpl = codes "unimpl"
keyword_bytes k.GlobalSet = codes "globalset"
keyword_bytes k.Local = codes "local"
keyword_bytes k.Goto = codes "goto"
keyword_bytes k.If = codes "if"
keyword_bytes k.Call = codes "call"
keyword_bytes k.Return = codes "return"
keyword_bytes k.Build = codes "build"
keyword_bytes k.Export = codes "export"
keyword_bytes k.InstNext2 = codes "inst_next2"

abbrev pub word_bytes : Word → List ℕ
word_bytes (plain w) = w
word_bytes (quoted keyword) = keyword_bytes keyword
