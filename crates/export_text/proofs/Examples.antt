-- The header of docs/exports.md, that of `examples/high-water.sheet`, with another number for the checksum. By computation.
use mathlib.Core.Path.{◌≡◌, refl}
use mathlib.Core.List.{[], ◌∷◌}
use lib.IntN.{pos}
use Rattle.text.specs.Bytes.{bytes_of}
use Rattle.stored.specs.Number.{bytes_of_number, table_bytes}
use Rattle.print.specs.Text.{digits_within}
use Rattle.print.specs.Lines.{lines_from}
use Rattle.export_text.specs.Export.{export_text}

high_water : export_text
    (record {
      names = bytes_of "level" ∷ (bytes_of "gate" ∷ []);
      lows = pos 0 ∷ (pos 0 ∷ []);
      highs = pos 2 ∷ (pos 1 ∷ []);
      kinds = 1 ∷ (0 ∷ []);
      letters = 6;
      states = 1;
      checksum = 9;
      entries = 0 ∷ 0 ∷ 0 ∷ 0 ∷ 65535 ∷ 0 ∷ [];
      finals = 1 ∷ [];
    })
    ≡ bytes_of "/* The table of a sheet for step.h, written by export. */\n#ifndef SHEET_TABLE_H\n#define SHEET_TABLE_H\n\n#include <stdint.h>\n\nenum { SHEET_STREAMS = 2, SHEET_LETTERS = 6, SHEET_STATES = 1 };\n#define SHEET_CRC32 UINT32_C(9)\n\nstatic const char *const sheet_names[SHEET_STREAMS] = {\n    \"level\", \"gate\",\n};\nstatic const int32_t sheet_lows[SHEET_STREAMS] = {\n    0, 0,\n};\nstatic const int32_t sheet_highs[SHEET_STREAMS] = {\n    2, 1,\n};\nstatic const uint8_t sheet_kinds[SHEET_STREAMS] = {\n    1, 0,\n};\nstatic const uint8_t sheet_table[2 * SHEET_STATES * SHEET_LETTERS] = {\n    0, 0, 0, 0, 0, 0, 0, 0, 255, 255, 0, 0,\n};\nstatic const uint8_t sheet_finals[SHEET_STATES] = {\n    1,\n};\n\n#endif\n"
unfolding bytes_of_number table_bytes digits_within lines_from export_text
high_water = refl
